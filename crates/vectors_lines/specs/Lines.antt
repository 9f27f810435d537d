-- Where a line ends. Assumes nothing: this is a definition.
use Rattle.std.specs.Prelude.{◌≡◌, List, ℕ, ◌≤◌, ◌<◌, length, get_or}

-- the line of s that starts at `at` ends at e: no line feed stands in it, and one stands at e unless s ends there
abbrev pub LineEnds : List ℕ → ℕ → ℕ → Type 0
LineEnds s at e = (at ≤ e) × (e ≤ length s) × ((i : ℕ) → at ≤ i → i < e → get_or s i 0 ≡ 10 → ⊥) × (e < length s → get_or s e 0 ≡ 10)
