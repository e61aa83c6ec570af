use Rattle.std.proofs.Common.{arith, rules, inl, inr, ◌≡◌, ◌+◌, ◌*◌, ◌<◌, ◌++◌, ◌∷◌, [], List, ℕ, Some, length}
use Rattle.std.proofs.Common.{slice_index}
use Rattle.std.proofs.lemmas.Grind.{common_steps}
use Rattle.std.proofs.lemmas.Bool.{cases_lt}
use Rattle.std.proofs.lemmas.List.{get_or_append_left}
use Rattle.events.specs.Fields.{hex_pair}
use Rattle.events.proofs.script.fields.bytes_of.Goals as goal

-- the digits write one byte more
hex-more : (digits bytes : List ℕ) (i byte : ℕ) → length bytes ≡ i
    → ((k : ℕ) → k < i → hex_pair (slice_index digits (2 * k)) (slice_index digits (2 * k + 1))
    ≡ Some (slice_index bytes k))
    → hex_pair (slice_index digits (2 * i)) (slice_index digits (2 * i + 1)) ≡ Some byte
    → (k : ℕ) → k < i + 1 → hex_pair (slice_index digits (2 * k)) (slice_index digits (2 * k + 1))
    ≡ Some (slice_index (bytes ++ byte ∷ []) k)
hex-more digits bytes i byte n each last k below = elim (cases_lt k i) [
  | inl h ↦ rw (get_or_append_left bytes (byte ∷ []) 0 k (omega (arith, n))) (each k h)
  | inr h ↦
      let e : k ≡ i = omega arith in
      let is : slice_index (bytes ++ byte ∷ []) i ≡ byte = grind (arith, common_steps) in
      rw (e, is) last
]

pub loop-index-preserved : goal.loop-index-preserved
loop-index-preserved c =
    let before = c.loop-index.invariant in
    let items : c.push.new.self.items ≡ c.loop-index.bytes.items ++ c.in-Some.byte ∷ [] = search rules in
    record {
      pairs = grind (arith, common_steps);
      each = rw items (hex-more c.args.digits.now c.loop-index.bytes.items c.loop-index.index c.in-Some.byte
          before.pairs before.each (search rules));
    }
