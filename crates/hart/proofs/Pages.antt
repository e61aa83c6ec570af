-- Words of a page and their operations.
use Rattle.hart.proofs.Common.{Acts, and_parts, ap, AreChecked, AreNow, arith, Bool, cases_eq, cases_lt, drop, eqb-true}
use Rattle.hart.proofs.Common.{false, get_or-set_other, get_or-set_same, Hart, Held, inl, inr, instruction_of, IsLive}
use Rattle.hart.proofs.Common.{At, Behind, eq-eqb, IsOp, KeepsWords, seen_in, Some, Stop, store_of, Stored, Within}
use Rattle.hart.proofs.Common.{length, List, Next, None, trap_of, word_by, ◌/◌}
use Rattle.hart.proofs.Common.{Op, op_by, Ram, refl, slice_index, slice_index_or, slice_set, StayLive, subst, sym, true}
use Rattle.hart.proofs.Common.{word_of, ℕ, ◌%◌, ◌&&◌, ◌*◌, ◌+◌, ◌<◌, ◌==◌, ◌∙◌, ◌≡◌, ◌≢◌, ◌≤◌, ◌⊎◌}
use Rattle.byteorder.specs.Endian.{little_number}
use Rattle.std.specs.Prelude.{[]}
use Rattle.std.proofs.Math.ListN.{replicate}
use Rattle.std.proofs.lemmas.List.{get_or-drop, get_or-replicate, length-drop}
use Rattle.ram.specs.declared.FrameNo.{FrameNo}
use Rattle.hart.specs.Known.{AreKnown, IsPage}
use Rattle.hart.specs.Operations.{AreDecoded, AreOps}
use Rattle.hart.specs.declared.live.Set.{Set}
use Rattle.hart.specs.declared.operation.Op.TheVariants as op
use Rattle.hart.specs.declared.page.Page.{Page}

-- the word 0 is no instruction
none_decoded : IsOp op.Illegal 0
unfolding op_by instruction_of
none_decoded regs pc see = refl

-- it does not go on
pub none-goes : {held held' : Held} (regs : List ℕ) {next : Next} (pc : ℕ) {old new : Hart} {ram ram' : Ram}
    → Acts held held' (word_by (instruction_of 0) regs pc) next pc old new ram ram' → trap_of next ≡ None → ⊥
unfolding instruction_of
none-goes regs pc acts none = absurd (cc (none, acts.does.0))

pub all_none : AreDecoded (replicate 1024 0) (replicate 1040 op.Illegal)
all_none = record {
  of_words = λ k d within.
      let ops = get_or-replicate 1040 (k + k / 64) op.Illegal d (omega (arith, within)) in
      let words = get_or-replicate 1024 k 0 0 within in
      subst (λ o. IsOp o (slice_index (replicate 1024 0) k)) (sym ops)
      (subst (λ w. IsOp op.Illegal w) (sym words) none_decoded);
  of_ends = λ part d within.
      let ops = get_or-replicate 1040 (65 * part + 64) op.Illegal d (omega (arith, within)) in
      subst (λ o. IsOp o 0) (sym ops) none_decoded;
}

-- one word is decoded anew
pub one_decoded : (words : List ℕ) (ops : List Op) (i word : ℕ) (o : Op) → AreDecoded words ops
    → length words ≡ 1024 → length ops ≡ 1040 → i < 1024 → IsOp o word
    → AreDecoded (slice_set words i word) (slice_set ops (i + i / 64) o)
one_decoded words ops i word o before w_long o_long within is = record {
  of_words = λ k d below. elim (cases_eq k i) [
    | inl same ↦
        let new_word : slice_index (slice_set words i word) k ≡ word =
        subst (λ j. slice_index (slice_set words i word) j ≡ word) (sym same)
        (get_or-set_same words i word 0 (omega (arith, w_long, within))) in
        let new_op : slice_index_or (slice_set ops (i + i / 64) o) (k + k / 64) d ≡ o =
        subst (λ j. slice_index_or (slice_set ops (i + i / 64) o) (j + j / 64) d ≡ o) (sym same)
        (get_or-set_same ops (i + i / 64) o d (omega (arith, o_long, within))) in
        subst (λ p. IsOp p (slice_index (slice_set words i word) k)) (sym new_op)
        (subst (λ w. IsOp o w) (sym new_word) is)
    | inr other ↦
        let old_word : slice_index (slice_set words i word) k ≡ slice_index words k =
        get_or-set_other words i k word 0 other in
        let old_op : slice_index_or (slice_set ops (i + i / 64) o) (k + k / 64) d ≡ slice_index_or ops (k + k / 64) d =
        get_or-set_other ops (i + i / 64) (k + k / 64) o d (λ same. other (omega (arith, same))) in
        subst (λ p. IsOp p (slice_index (slice_set words i word) k)) (sym old_op)
        (subst (λ w. IsOp (slice_index_or ops (k + k / 64) d) w) (sym old_word) (before.of_words k d below))
  ];
  of_ends = λ part d below.
      let old_op : slice_index_or (slice_set ops (i + i / 64) o) (65 * part + 64) d
      ≡ slice_index_or ops (65 * part + 64) d =
      get_or-set_other ops (i + i / 64) (65 * part + 64) o d (λ same. omega (arith, same)) in
      subst (λ p. IsOp p 0) (sym old_op) (before.of_ends part d below);
}

-- the operations of a part are those of the page from its number on
pub part-ops : (words : List ℕ) (ops : List Op) (part : ℕ) → AreDecoded words ops → length ops ≡ 1040 → part < 16
    → AreOps words part (drop part ops)
part-ops words ops part are long within = record {
  long = rw (length-drop part ops) (omega (arith, long, within));
  of_words = λ k d since less.
      let there : part + k ≡ k + k / 64 = omega (arith, since, less) in
      subst (λ p. IsOp p (slice_index words k))
      (sym (get_or-drop part ops k d ∙ ap (λ j. slice_index_or ops j d) there))
      (are.of_words k d (omega (arith, within, less)));
  of_end = λ d.
      let there : part + (64 * part + 64) ≡ 65 * part + 64 = omega arith in
      subst (λ p. IsOp p 0) (sym (get_or-drop part ops (64 * part + 64) d ∙ ap (λ j. slice_index_or ops j d) there))
      (are.of_ends part d within);
}

-- ---- words of a frame

-- one more word was compared
pub compared : (words : List ℕ) (ram : Ram) (f : ℕ) {from : ℕ} (k word : ℕ) (same : Bool)
    → (same ≡ true → AreNow words ram f from k) → word ≡ word_of ram f (4 * k) 4
    → (same && (slice_index words k == word)) ≡ true → AreNow words ram f from (k + 1)
compared words ram f k word same before is both j since less =
    let parts = and_parts same (slice_index words k == word) both in
    elim (cases_lt j k) [
      | inl earlier ↦ before parts.0 j since earlier
      | inr last ↦ let here : k ≡ j = omega (arith, less, last) in
          subst (λ i. slice_index words i ≡ word_of ram f (4 * i) 4) here
          (eqb-true (slice_index words k) word parts.1 ∙ is)
    ]

-- one more word is that of a frame
module _ (words words' : List ℕ) (k : ℕ)
    (others : (j : ℕ) → (j ≡ k → ⊥) → slice_index words' j ≡ slice_index words j) where
  pub renewed-now : (ram : Ram) (f : ℕ) {from : ℕ} → AreNow words ram f from k
      → slice_index words' k ≡ word_of ram f (4 * k) 4 → AreNow words' ram f from (k + 1)
  renewed-now ram f now is j since less = elim (cases_lt j k) [
    | inl before ↦ others j (λ same. omega (arith, same, before)) ∙ now j since before
    | inr last ↦ let same : k ≡ j = omega (arith, less, last) in
        subst (λ i. slice_index words' i ≡ word_of ram f (4 * i) 4) same is
  ]

  pub renewed-others : (first : List ℕ) {from : ℕ} → from ≤ k
      → ((j : ℕ) → (j < from) ⊎ (k ≤ j) → slice_index words j ≡ slice_index first j)
      → (j : ℕ) → (j < from) ⊎ (k + 1 ≤ j) → slice_index words' j ≡ slice_index first j
  renewed-others first since before j (inl less) =
      others j (λ same. omega (arith, same, less, since)) ∙ before j (inl less)
  renewed-others first since before j (inr more) =
      others j (λ same. omega (arith, same, more)) ∙ before j (inr (omega (arith, more)))

pub none-checked : (words : List ℕ) (ram : Ram) (f : ℕ) → AreChecked words ram f (replicate 16 false)
none-checked words ram f p below marked =
    let unmarked : slice_index_or (replicate 16 false) p false ≡ false = get_or-replicate 16 p false false below in
    absurd (cc (marked, unmarked))

-- another part than one that is marked anew
marked-other : (parts : List Bool) (part p : ℕ) (mark : Bool) → p ≢ part
    → slice_index_or (slice_set parts part mark) p false ≡ true → slice_index_or parts p false ≡ true
marked-other parts part p mark other marked = sym (get_or-set_other parts part p mark false other) ∙ marked

-- a part was checked
pub part-checked : (words words' : List ℕ) (ram : Ram) (f : ℕ) (parts : List Bool) (part : ℕ)
    → AreNow words' ram f (64 * part) (64 * part + 64)
    → ((k : ℕ) → (k < 64 * part) ⊎ (64 * part + 64 ≤ k) → slice_index words' k ≡ slice_index words k)
    → AreChecked words ram f parts → AreChecked words' ram f (slice_set parts part true)
part-checked words words' ram f parts part now others before p below marked k since less = elim (cases_eq p part) [
  | inl same ↦ now k (omega (arith, since, same)) (omega (arith, less, same))
  | inr other ↦
      let old = before p below (marked-other parts part p true other marked) k since less in
      elim (cases_lt p part) [
        | inl down ↦ others k (inl (omega (arith, less, down))) ∙ old
        | inr up ↦ others k (inr (omega (arith, since, up, other))) ∙ old
      ]
]

-- a store left the words of its frame but two
pub store-keeps : (next : Next) {g : FrameNo} {f k : ℕ} (ram ram' : Ram) → store_of next ≡ Some (g, k)
    → g.0 ≡ f → KeepsWords (seen_in next f) f ram ram'
    → (j : ℕ) → j / 2 ≢ k / 2 → word_of ram' f (4 * j) 4 ≡ word_of ram f (4 * j) 4
store-keeps Behind ram ram' is same keeps j beside = absurd (cc is)
store-keeps (Stored h doubleword) {g} {f} {k} ram ram' is same keeps j beside =
    let both : (h, 2 * doubleword) ≡ (g, k) = cc is in
    let frame : h.0 ≡ f = ap (λ (p : FrameNo × ℕ). p.0.0) both ∙ same in
    let words : 2 * doubleword ≡ k = ap (λ (p : FrameNo × ℕ). p.1) both in
    (rw (eq-eqb h.0 f frame) at keeps) j (λ e. let its : doubleword ≡ j / 2 =
    cc e in beside (omega (arith, its, words)))
store-keeps (Within to) ram ram' is same keeps j beside = absurd (cc is)
store-keeps (At to) ram ram' is same keeps j beside = absurd (cc is)
store-keeps (Stop t) ram ram' is same keeps j beside = absurd (cc is)

pub stay-then : (f : ℕ) (frames frames' frames'' : List ℕ) (ram ram' ram'' : Ram) → StayLive f frames frames' ram ram'
    → StayLive f frames' frames'' ram' ram'' → StayLive f frames frames'' ram ram''
stay-then f frames frames' frames'' ram ram' ram'' before after g fits other live =
    let now = after g fits other live in
    let past = before g fits other now.0 in
    (past.0, λ k. now.1 k ∙ past.1 k)

-- ---- pages that are known

none-live : (g : ℕ) → g < 4294967295 → slice_index (replicate 32 4294967295) (g % 32) ≡ g → ⊥
none-live g fits live =
    let none : slice_index (replicate 32 4294967295) (g % 32) ≡ 4294967295 =
    get_or-replicate 32 (g % 32) 4294967295 0 (omega arith) in
    let same : g ≡ 4294967295 = sym live ∙ none in
    omega (arith, fits, same)

pub none-known : (sets : List Set) (pages : List Page) (ram : Ram)
    → AreKnown (replicate 32 4294967295) sets pages ram
none-known sets pages ram f fits live at is d = absurd (none-live f fits live)

module _ (frames : List ℕ) (f : ℕ) where
  pub noted : length frames ≡ 32 → IsLive (slice_set frames (f % 32) f) f
  noted long = get_or-set_same frames (f % 32) f 0 (omega (arith, long))

  -- of its number there is no other
  noted-same : (g : ℕ) → length frames ≡ 32 → g % 32 ≡ f % 32 → IsLive (slice_set frames (f % 32) f) g → g ≡ f
  noted-same g long same live =
      sym live ∙ subst (λ i. slice_index (slice_set frames (f % 32) f) i ≡ f) (sym same) (noted long)

  noted-other : (g : ℕ) → g % 32 ≢ f % 32 → IsLive (slice_set frames (f % 32) f) g → IsLive frames g
  noted-other g other live = sym (get_or-set_other frames (f % 32) (g % 32) f 0 other) ∙ live

-- one alone is known
pub stays-alone : (f : ℕ) (frames : List ℕ) (ram ram' : Ram)
    → StayLive f frames (slice_set (replicate 32 4294967295) (f % 32) f) ram ram'
stays-alone f frames ram ram' g fits other live = elim (cases_eq (g % 32) (f % 32)) [
  | inl same ↦ absurd (other (noted-same (replicate 32 4294967295) f g refl same live))
  | inr apart ↦ absurd (none-live g fits (noted-other (replicate 32 4294967295) f g apart live))
]

pub no_pages : Set
no_pages = record { frames = replicate 4 0; last = 0; within = omega arith }

pub last-set : (sets : List Set) (i : ℕ) (s d : Set) → i < length sets
    → (slice_index_or (slice_set sets i s) i d).last ≡ s.last
last-set sets i s d within = ap (λ (t : Set). t.last) (get_or-set_same sets i s d within)

-- the pages of two frames
module _ (sets : List Set) (s : Set) (f g : ℕ) {at at' : ℕ} (is : IsPage sets f at) (is' : IsPage sets g at') where
  place-same : g % 32 ≡ f % 32 → at' ≡ at
  place-same same =
      is' s ∙ subst (λ i. 4 * i + (slice_index_or sets i s).last ≡ at) (sym same) (sym (is s))

  place-other : g % 32 ≢ f % 32 → at' ≢ at
  place-other other same =
      omega (
        arith,
        other,
        same,
        is s,
        is' s,
        (slice_index_or sets (f % 32) s).within,
        (slice_index_or sets (g % 32) s).within,
      )

-- a page of a frame is known now
pub placed-known : (frames : List ℕ) (sets : List Set) (pages : List Page) (ram : Ram) (f at : ℕ) (s : Set) (p : Page)
    → length frames ≡ 32 → at < length pages → IsPage (slice_set sets (f % 32) s) f at
    → AreChecked p.words ram f p.parts → AreKnown frames sets pages ram
    → AreKnown (slice_set frames (f % 32) f) (slice_set sets (f % 32) s) (slice_set pages at p) ram
placed-known frames sets pages ram f at s p long within is checked before g fits live at' is' d =
    elim (cases_eq (g % 32) (f % 32)) [
      | inl same ↦
          let frame : g ≡ f = noted-same frames f g long same live in
          let place : at' ≡ at = place-same (slice_set sets (f % 32) s) s f g is is' same in
          let page : slice_index_or (slice_set pages at p) at' d ≡ p =
          subst (λ i. slice_index_or (slice_set pages at p) i d ≡ p) (sym place)
          (get_or-set_same pages at p d within) in
          rw (page, frame) checked
      | inr other ↦
          let apart = place-other (slice_set sets (f % 32) s) s f g is is' other in
          let page : slice_index_or (slice_set pages at p) at' d ≡ slice_index_or pages at' d =
          get_or-set_other pages at at' p d apart in
          let there : IsPage sets g at' = λ e. subst (λ (t : Set). at' ≡ 4 * (g % 32) + t.last)
          (get_or-set_other sets (f % 32) (g % 32) s e other) (is' e) in
          rw page (before g fits (noted-other frames f g other live) at' there d)
    ]

-- operations of a page were done
pub still-known : (frames frames' : List ℕ) (sets : List Set) (s : Set) (pages : List Page) (ram ram' : Ram)
    (f at : ℕ) (p : Page) → at < length pages → IsPage sets f at → IsLive frames f
    → StayLive f frames frames' ram ram' → AreChecked p.words ram' f p.parts → AreKnown frames sets pages ram
    → AreKnown frames' sets (slice_set pages at p) ram'
still-known frames frames' sets s pages ram ram' f at p within is live stay checked before g fits live' at' is' d =
    elim (cases_eq g f) [
      | inl same ↦
          let place : at' ≡ at = place-same sets s f g is is' (ap (λ n. n % 32) same) in
          let page : slice_index_or (slice_set pages at p) at' d ≡ p =
          subst (λ i. slice_index_or (slice_set pages at p) i d ≡ p) (sym place)
          (get_or-set_same pages at p d within) in
          rw (page, same) checked
      | inr other ↦
          let stays = stay g fits other live' in
          let sets-apart : g % 32 ≢ f % 32 = λ same. other (sym stays.0
          ∙ subst (λ i. slice_index frames i ≡ f) (sym same) live) in
          let page : slice_index_or (slice_set pages at p) at' d ≡ slice_index_or pages at' d =
          get_or-set_other pages at at' p d (place-other sets s f g is is' sets-apart) in
          rw page (λ part below marked k since less.
          before g fits stays.0 at' is' d part below marked k since less ∙ sym (stays.1 k))
    ]

-- a frame whose page is not known has other bytes
pub other-written : (frames : List ℕ) (sets : List Set) (pages : List Page) (ram : Ram) (bytes : List ℕ) (f : ℕ)
    → (IsLive frames f → ⊥) → AreKnown frames sets pages ram → AreKnown frames sets pages (slice_set ram f bytes)
unfolding word_of
other-written frames sets pages ram bytes f not known g fits live at is d p below marked k since less =
    let other = get_or-set_other ram f g bytes [] (λ same. not (subst (IsLive frames) same live)) in
    known g fits live at is d p below marked k since less
    ∙ ap (λ frame. little_number 4 (drop (4 * k) frame)) (sym other)
