-- Events that are put after others.
use Rattle.std.proofs.Common.{◌≡◌, ◌∙◌, ◌+◌, ◌<◌, ℕ, List, [], ◌∷◌, ◌++◌, Some, ap, append_assoc, get_or, length, map}
use Rattle.std.proofs.Common.{replicate, sym, take}
use Rattle.gdbruns.specs.Debugged.{IsDebugged}
use Rattle.gdbserver.specs.Debugging.{OnlyAdds}
use Rattle.events.proofs.Scripting.{press-next}
use Rattle.timeline.specs.Line.{Line}
use Rattle.unixmodel.specs.declared.event.Event.{Event}
use Rattle.unixmodel.specs.declared.event.Event.TheVariants.{Key}

-- one key more
pub key-more : (old now new : List Event) (keys : List ℕ) (i k : ℕ) → i < length keys → k ≡ get_or keys i 0
    → now ≡ old ++ take i (map Key keys) → new ≡ now ++ replicate 1 (Key k)
    → new ≡ old ++ take (i + 1) (map Key keys)
key-more old now new keys i k less is before after =
    after ∙ ap (λ es. es ++ Key k ∷ []) before ∙ append_assoc old (take i (map Key keys)) (Key k ∷ [])
    ∙ ap (λ x. old ++ (take i (map Key keys) ++ Key x ∷ [])) is
    ∙ ap (λ es. old ++ es) (sym (press-next keys i less))

-- what was typed comes after the script's events
pub debugged-after : (image : List ℕ) (frames : ℕ) (events : List Event) (old new : Line)
    → IsDebugged image frames events old → OnlyAdds old new → IsDebugged image frames events new
debugged-after image frames events old new h adds = record {
  files = h.files;
  accepted = h.accepted;
  starts = h.starts ∙ ap Some (sym adds.start);
  begins = (
    h.begins.0 ++ adds.events.0,
    adds.events.1 ∙ ap (λ es. es ++ adds.events.0) h.begins.1 ∙ append_assoc events h.begins.0 adds.events.0,
  );
}
