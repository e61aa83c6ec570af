-- What translators that remember do with an address that they have, and with one that they lack.
use Rattle.ram.proofs.MemoryLemmas.{Ram}
use Rattle.ram.specs.declared.FrameNo.{FrameNo}
use Rattle.std.proofs.Common.{None, Ok, Option, Some, ap, arith, inl, inr, length, refl, sym, ℕ, ◌/◌, ◌<◌, ◌≡◌, ◌∙◌}
use Rattle.std.proofs.lemmas.Option.{same_Some}
use Rattle.std.specs.Prelude.{IfOk, IfSome, option_map}
use Rattle.std.specs.Result.{result_ok}
use Rattle.unixmodel.specs.declared.trap.Access.{Access}
use Rattle.unixmodel.specs.Translation.{Held, HoldsInside, IsAnswer, place_in, walk}
use Rattle.sv39.specs.Lookaside.{Cache, IsFound, IsPlaced, Keeps, Knows, Misses, Reaches, Remembers, Table, asked}
use Rattle.sv39.specs.Translating.{Asks, RecallsOrAsks, RecallsOrWalks, Walks, placed}
use Rattle.sv39.specs.Walk.{LiesInside}
use Rattle.sv39.specs.declared.recent.Recent.{Recent}

-- ---- the address in a frame

lies-inside : (ram : Ram) (va f : ℕ) → f < length ram → LiesInside ram (place_in va f)
lies-inside ram va f inside = (omega arith, omega arith)

ok-placed : (va : ℕ) (frame : Option ℕ) → result_ok (placed va frame) ≡ option_map (place_in va) frame
ok-placed va None = refl
ok-placed va (Some f) = refl

inside-placed : (ram : Ram) (va : ℕ) (frame : Option ℕ) → IfSome frame (λ f. f < length ram)
    → IfOk (placed va frame) (LiesInside ram)
inside-placed ram va None inside = tt
inside-placed ram va (Some f) inside = lies-inside ram va f inside

reached : (held : Held) (root va : ℕ) (access : Access) (frame : Option ℕ)
    → IfSome frame (λ f. held (asked root va access f)) → IfOk (placed va frame) (Reaches held root va access)
reached held root va access None joins = tt
reached held root va access (Some f) joins = (f, joins, refl)

-- what is found is the result also of who holds more
answer-placed : (held more : Held) (ram : Ram) (root va : ℕ) (access : Access) (frame : Option ℕ)
    → ((f : ℕ) → held (asked root va access f) → more (asked root va access f))
    → IsFound held ram root va access frame → IsAnswer more ram root va access (result_ok (placed va frame))
answer-placed held more ram root va access frame holds (inl walked) =
    inl (ok-placed va frame ∙ ap (option_map (place_in va)) walked)
answer-placed held more ram root va access frame holds (inr kept) =
    inr (kept.0, holds kept.0 kept.1, ok-placed va frame ∙ ap (option_map (place_in va)) kept.2)

-- a slot keeps one frame
one-frame : (n : ℕ) (table : Table) (root page f g : ℕ) → IsPlaced n table root page f → IsPlaced n table root page g
    → f ≡ g
one-frame n table root page f g one other =
    ap (λ (x : FrameNo). x.0) (same_Some (record { 0 = f }) (record { 0 = g }) (sym one.at_frame ∙ other.at_frame))

-- ---- a translation cache

module _ (n : ℕ) (ram : Ram) (root va : ℕ) (access : Access) where
  pub recalled : (cache : Cache) (f : ℕ) → Keeps n cache.kept (asked root va access f)
      → RecallsOrWalks n cache cache ram root va access (Ok (place_in va f))
  recalled cache f is = record {
    answer = inr (f, is, refl);
    inside = λ inside. lies-inside ram va f (inside (asked root va access f) is);
    kept = λ t was. inl was;
    hit = λ g at. (ap (λ x. placed va (Some x)) (one-frame n _ root (va / 4096) f g is at), refl);
    walks = λ none. absurd (none f is);
    joins = (f, is, refl);
    stays = λ t _ was. was;
  }

  pub walked-anew : {old new : Cache} (frame : Option ℕ) → Misses (Keeps n old.kept) root va access
      → Walks n old new ram root (va / 4096) access frame
      → RecallsOrWalks n old new ram root va access (placed va frame)
  walked-anew {new = new} frame none did =
      let walked : result_ok (placed va frame) ≡ walk ram root va access =
      ok-placed va frame ∙ ap (option_map (place_in va)) did.is in
      record {
        answer = inl walked;
        inside = λ _. inside-placed ram va frame did.inside;
        kept = did.kept;
        hit = λ f at. absurd (none f at);
        walks = λ _. (walked, did.reads);
        joins = reached (Keeps n new.kept) root va access frame did.joins;
        stays = did.stays;
      }

-- ---- a translator over another one

module _ {T : Type 0} (held : T → Held) (ram : Ram) (root va : ℕ) (access : Access) where
  pub remembered : (r : Recent T) (f : ℕ) → HoldsInside (Knows held r.below r.places) ram
      → Remembers r.places (asked root va access f) → RecallsOrAsks held r r ram root va access (Ok (place_in va f))
  remembered r f inside is = record {
    answer = inr (f, inr is, refl);
    inside = lies-inside ram va f (inside (asked root va access f) (inr is));
    kept = λ t was. inl was;
    hit = λ g at. (ap (λ x. placed va (Some x)) (one-frame 256 _ root (va / 4096) f g is at), refl);
    miss = λ none. absurd (none f is);
    joins = (f, is, refl);
    stays = λ t _ was. was;
  }

  pub asked-below : {old new : Recent T} (frame : Option ℕ) → Misses (Remembers old.places) root va access
      → Asks held old new ram root va access frame
      → RecallsOrAsks held old new ram root va access (placed va frame)
  asked-below {old} {new} frame none did = record {
    answer = answer-placed (held old.below) (Knows held old.below old.places) ram root va access frame (λ f is. inl is)
        did.found;
    inside = inside-placed ram va frame did.inside;
    kept = did.kept;
    hit = λ f at. absurd (none f at);
    miss = λ _.
        (answer-placed (held old.below) (held old.below) ram root va access frame (λ f is. is) did.found, did.below);
    joins = reached (Remembers new.places) root va access frame did.joins;
    stays = did.stays;
  }
