-- How long an outcome's nodes are and what is sent for it, case by case. Assumes nothing.
-- Letters: m mode, c command, o outcome, z a size, s the record's bytes, h the command's head, q a place, ps places, v several keys, x client expiry.
use Rattle.std.specs.Prelude.{◌≡◌, ℕ, ◌+◌, ◌<◌}
use Rattle.std.proofs.Math.Path.{refl, sym, ap}
use Rattle.std.proofs.Common.{◌∙◌}
use mathlib.Core.List.{List, [], ◌∷◌, ◌++◌}
use native.Mathlib.Omega.{arith}
use Rattle.std.proofs.Math.ListN.{length, length-append}
use Rattle.buffer.specs.Same.{Bytes}
use Rattle.config.specs.declared.CacheMode.{CacheMode}
use Rattle.format.specs.Lists.{enc_all}
use Rattle.call_record.specs.Record.{Command}
use Rattle.cursor.specs.At.{range_bytes, command_of}
use Rattle.cursor.specs.declared.Head.{Head}
use Rattle.cursor.specs.declared.Range.{Range}
use Rattle.command_key.specs.declared.CommandKey.TheVariants.{Joined}
use Rattle.command_key.specs.Key.{key_bytes}
use Rattle.book.specs.Calls.{Wanted}
use Rattle.planning.specs.Outcome as plan
use Rattle.planning.specs.Outcome.{Place, filled, waiting, missing, item, ignored, not_cacheable, single_item, multiple_item, whole_key}
use Rattle.planning.specs.Sent.{keys_of}
use Rattle.planning.specs.Plan.{place_nodes, node_bytes, enc_node, hand_on_kind, served_kind, all_served_kind, missing_kind, several_kind, waiting_kind, end_kind}
use Rattle.planning_ask.specs.Asked.{several_name, path_in, SeveralIn}
use Rattle.planning_ask.specs.Keys.{whole-key}
use Rattle.planning_ask.specs.declared.Several.{Several}
use Rattle.plan_write.specs.Pieces.{length-node}
use Rattle.planning_outcome.specs.Places.{item-served, item-missing}
use Rattle.planning_outcome.specs.Nodes.{nodes_as, nodes-ignored, nodes-not-cacheable, nodes-value, nodes-single, nodes-values, nodes-multiple}
use Rattle.planning_places.specs.Measure.{Measures}
use Rattle.planning_places.specs.declared.Measured.{Measured}
use Rattle.planning_send.specs.Sends.{caching_bytes, own_bytes, single_bytes, several_with, sent_as, own-ignored, own-not-cacheable, none-cached}
use Rattle.planning_send.specs.Sends.{packs-missing, packs-one, packs-several}
use Rattle.planning_dry_pass.specs.declared.Size.{Size}

-- it takes so many bytes in the plan, and so many are sent for it
pub record SizedAs (m : CacheMode) (c : Command) (o : plan.CachingResult) (z : Size) : Type 0 where
  pub plan : z.plan ≡ length (nodes_as o)
  pub send : z.send ≡ length (sent_as m c o)

module _ (m : CacheMode) where
  -- ---- a reply that is handed on

  pub size-ignored : (s : Bytes) (h : Head) (n : ℕ) → n ≡ length (own_bytes s h) → SizedAs m (command_of s h) ignored (record { plan = 20; send = n })
  size-ignored s h n e =
      record { plan = sym (ap length nodes-ignored ∙ length-node hand_on_kind [] [] 0); send = e ∙ sym (ap length (own-ignored m s h)) }

  pub size-not-cacheable : (s : Bytes) (h : Head) (n : ℕ) → n ≡ length (own_bytes s h)
      → SizedAs m (command_of s h) (item not_cacheable) (record { plan = 20; send = n })
  size-not-cacheable s h n e =
      record { plan = sym (ap length nodes-not-cacheable ∙ length-node hand_on_kind [] [] 0); send = e ∙ sym (ap length (own-not-cacheable m s h)) }

  -- ---- one key

  pub size-hit : (c : Command) (q : Place) (x : ℕ) (v : Bytes) (n : ℕ) → q ≡ filled v → n ≡ length v
      → SizedAs m c (item (single_item q x)) (record { plan = 20 + n; send = 0 })
  unfolding single_item
  size-hit c q x v n e l =
      let a = ap length (nodes-value v) ∙ length-node served_kind v [] 0 in
      rw e (record { plan = omega arith; send = sym (ap length (none-cached m c (plan.value v))) })

  pub size-miss : (s : Bytes) (h : Head) (key : Range) (q : Place) (x : ℕ) (t : Bytes) (n k l : ℕ) → q ≡ waiting (whole_key (command_of s h) (range_bytes s key))
      → t ≡ range_bytes s key → n ≡ 20 + length t + length (key_bytes s (Joined h.args)) → k ≡ length (caching_bytes m) → l ≡ length (single_bytes s h key)
      → SizedAs m (command_of s h) (item (single_item q x)) (record { plan = n; send = k + l })
  unfolding single_item whole_key
  size-miss s h key q x t n k l e p i j d =
      let w : Wanted = whole_key (command_of s h) (range_bytes s key) in
      let y : length w.command ≡ length (key_bytes s (Joined h.args)) = ap length (whole-key s h (range_bytes s key)) in
      let u = ap length p in
      let a = ap length (nodes-single w x) ∙ length-node missing_kind w.key w.command x in
      let b = ap length (packs-missing m (command_of s h) (plan.single w x) ∙ ap (λ (z : Bytes). caching_bytes m ++ z) (packs-one s h key x))
      ∙ length-append (caching_bytes m) (single_bytes s h key) in
      rw e (record { plan = omega arith; send = omega arith })

  -- ---- several keys

  -- a place's node has the same length under any expiry
  node-lengths : (x : ℕ) (ps : List Place) → length (enc_all enc_node (place_nodes x ps)) ≡ length (enc_all enc_node (place_nodes 0 ps))
  unfolding place_nodes enc_node
  node-lengths x [] = refl
  node-lengths x (filled b ∷ ps) =
      let i = node-lengths x ps in
      let j = length-append (node_bytes served_kind b [] 0) (enc_all enc_node (place_nodes x ps)) in
      let k = length-append (node_bytes served_kind b [] 0) (enc_all enc_node (place_nodes 0 ps)) in
      omega arith
  node-lengths x (waiting w ∷ ps) =
      let i = node-lengths x ps in
      let j = length-append (node_bytes waiting_kind w.key w.command x) (enc_all enc_node (place_nodes x ps)) in
      let k = length-append (node_bytes waiting_kind w.key w.command 0) (enc_all enc_node (place_nodes 0 ps)) in
      let a = length-node waiting_kind w.key w.command x in
      let b = length-node waiting_kind w.key w.command 0 in
      omega arith

  module _ (c : Command) (s : Bytes) (v : Several) (ps : List Place) (x : ℕ) (d : Measured) (w : Measures ps d) where
    -- the outcome
    abbrev outcome_of : plan.PrepCacheItem
    outcome_of = multiple_item (missing ps) (several_name v.json) ps (path_in s v) x

    -- none waits
    pub size-served : d.missing ≡ 0 → SizedAs m c (item outcome_of) (record { plan = 20 + d.nodes; send = 0 })
    size-served e =
        let q : length (missing ps) ≡ 0 = sym w.number ∙ e in
        let i = item-served ps (several_name v.json) (path_in s v) x q in
        let a = ap length (ap (λ (z : plan.PrepCacheItem). nodes_as (item z)) i ∙ nodes-values 0 ps q)
        ∙ length-append (node_bytes all_served_kind [] [] (length ps)) (enc_all enc_node (place_nodes 0 ps)) in
        let b = length-node all_served_kind [] [] (length ps) in
        let n = w.nodes in
        record {
          plan = omega arith;
          send = sym (ap length (ap (λ (z : plan.PrepCacheItem). sent_as m c (item z)) i ∙ none-cached m c (plan.values (plan.served_values ps))));
        }

    -- some wait
    pub size-missing : SeveralIn s v → (d.missing ≡ 0 → ⊥) → 0 < v.keys → (k l : ℕ) → k ≡ length (caching_bytes m)
        → l ≡ length (several_with s v d.missing (keys_of (missing ps)))
        → SizedAs m c (item outcome_of) (record { plan = 40 + d.nodes; send = k + l })
    size-missing u e p k l f g =
        let i = item-missing ps (several_name v.json) (path_in s v) x (λ z. e (w.number ∙ z)) in
        let P : Bytes = enc_all enc_node (place_nodes x ps) in
        let a = ap length (ap (λ (z : plan.PrepCacheItem). nodes_as (item z)) i ∙ nodes-multiple (several_name v.json) ps (path_in s v) x)
        ∙ length-append (node_bytes several_kind [] [] (length ps)) (P ++ node_bytes end_kind [] [] 0) in
        let b = length-append P (node_bytes end_kind [] [] 0) in
        let y = length-node several_kind [] [] (length ps) in
        let r = length-node end_kind [] [] 0 in
        let n = w.nodes in
        let j = node-lengths x ps in
        let C : plan.CacheableCommand = plan.multiple (several_name v.json) ps (path_in s v) x in
        let h = ap length (ap (λ (z : plan.PrepCacheItem). sent_as m c (item z)) i ∙ packs-missing m c C
        ∙ ap (λ (z : Bytes). caching_bytes m ++ z) (packs-several c s v ps d.missing x u p w.number))
        ∙ length-append (caching_bytes m) (several_with s v d.missing (keys_of (missing ps))) in
        record { plan = omega arith; send = omega arith }
