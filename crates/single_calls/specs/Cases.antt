-- Setup at the borders of cause 1, computed. Assumes nothing.
use Rattle.std.specs.Prelude.{◌≡◌, refl, Ok, Err}
use Rattle.config.specs.Config.{checked, refused, settings_of}
use Rattle.config.specs.declared.Cause.TheVariants.{BadConfig}
use Rattle.single_calls.specs.Setup.{set_up}

-- a size of 65,536 with 64 bytes a shard is set up, with epoch 0 and next number 1
pub largest_size : set_up (checked 65536 1 0 2048) ≡ Ok (record { epoch = 0; next = 1 })
unfolding checked refused settings_of
largest_size = refl

-- one more, a mode of 2, or an arena of a byte less is refused as 1
pub too_large : set_up (checked 65537 1 0 2048) ≡ Err BadConfig
unfolding checked refused settings_of
too_large = refl

pub other-mode : set_up (checked 65536 2 0 2048) ≡ Err BadConfig
unfolding checked refused settings_of
other-mode = refl

pub too_short : set_up (checked 65536 1 0 2047) ≡ Err BadConfig
unfolding checked refused settings_of
too_short = refl
