-- Files that are saved as the same.
use Rattle.std.proofs.Common.{ap, arith, below_more, Bool, drop, Err, false, length, List, None, Ok, Option}
use Rattle.std.proofs.Common.{refl, Result, Some, subst, sym, take, true, ℕ, ◌+◌, ◌*◌, ◌++◌, ◌<◌, ◌∙◌, ◌≡◌}
use Rattle.std.proofs.lemmas.Bool.{false≢true}
use Rattle.std.proofs.lemmas.List.{length-take, take_all, take-append-drop}
use Rattle.std.proofs.Math.Seq.{take-add, take-append_seam}
use Rattle.calls.specs.declared.halt.Halt.{Halt}
use Rattle.std.specs.Prelude.{IfOk, IfSome, if◌then◌else◌, is_none, option_map, ◌==◌}
use Rattle.explore.specs.Both.{BothStay, IsSamePiece, named_of}
use Rattle.machine.specs.declared.inodes.Stat as told
use Rattle.machine.specs.Looks.{IsRead, ReadsAt, stat_seen}
use Rattle.orders.specs.Ends.{Saved, saved_as}
use Rattle.machine.specs.View.{View}
use Rattle.unixmodel.specs.Files.{Node, links_of, slot}
use Rattle.unixmodel.specs.State.{State}
use Rattle.unixmodel.specs.Shown.{Stat, bytes_or_none, stat_of}

-- ---- pieces

-- two buffers that are the same hold the same bytes
pub read-same : (bytes others old new news : List ℕ) (count : ℕ) → IsRead bytes old new count
    → IsRead others old news count → new ≡ news → bytes ≡ others
read-same bytes others old new news count h k same =
    sym (take-append_seam bytes (drop count old))
    ∙ ap (λ n. take n (bytes ++ drop count old)) (sym h.count)
    ∙ ap (take count) (sym h.front ∙ same ∙ k.front)
    ∙ ap (λ n. take n (others ++ drop count old)) k.count
    ∙ take-append_seam others (drop count old)

-- one piece more
pub piece-more : (bytes others : List ℕ) (k count : ℕ) → take (1024 * k) bytes ≡ take (1024 * k) others
    → IsSamePiece bytes others k count → take (1024 * (k + 1)) bytes ≡ take (1024 * (k + 1)) others
piece-more bytes others k count below h =
    let more : 1024 * (k + 1) ≡ 1024 * k + 1024 = omega arith in
    ap (λ n. take n bytes) more ∙ take-add (1024 * k) 1024 bytes
    ∙ ap (λ xs. xs ++ take 1024 (drop (1024 * k) bytes)) below
    ∙ ap (λ xs. take (1024 * k) others ++ xs) h.same
    ∙ sym (take-add (1024 * k) 1024 others) ∙ sym (ap (λ n. take n others) more)

short-piece : (xs : List ℕ) (count : ℕ) → count ≡ length (take 1024 xs) → count < 1024 → take 1024 xs ≡ xs
short-piece xs count is less =
    let long = length-take 1024 xs in
    take_all 1024 xs (omega (arith, long, is, less))

-- the last piece
pub piece-last : (bytes others : List ℕ) (k count : ℕ) → take (1024 * k) bytes ≡ take (1024 * k) others
    → IsSamePiece bytes others k count → count < 1024 → bytes ≡ others
piece-last bytes others k count below h less =
    let ended = short-piece (drop (1024 * k) bytes) count h.long less in
    let other_count = h.long ∙ ap (λ (xs : List ℕ). length xs) h.same in
    let other_ended = short-piece (drop (1024 * k) others) count other_count less in
    sym (take-append-drop (1024 * k) bytes)
    ∙ ap (λ xs. xs ++ drop (1024 * k) bytes) below
    ∙ ap (λ xs. take (1024 * k) others ++ xs) (sym ended ∙ h.same ∙ other_ended)
    ∙ take-append-drop (1024 * k) others

-- ---- nodes

saved-from : Stat → List ℕ → Saved
saved-from stat bytes = record { stat = stat; bytes = bytes }

-- what is reported of a node with a name
abbrev told_of : Option Node → Option told.Stat
told_of o = named_of (option_map stat_seen (option_map stat_of o))

named-by : (b : Bool) (s t : told.Stat) → (if b then None else Some s) ≡ Some t → (b ≡ false) × (s ≡ t)
named-by true s t h = absurd cc
named-by false s t h = (refl, cc)

unnamed-by : (b : Bool) (s : told.Stat) → (if b then None else Some s) ≡ None → b ≡ true
unnamed-by true s h = refl
unnamed-by false s h = absurd cc

same-stat : (s t : Stat) → stat_seen s ≡ stat_seen t → s ≡ t
same-stat s t same =
    ap (λ (x : told.Stat). let r : Stat = record { kind = x.kind; links = x.links; size = x.size } in r) same

-- none has a name
pub unnamed : (o : Option Node) → told_of o ≡ None → saved_as o ≡ None
unnamed None h = refl
unnamed (Some node) h =
    let free : (links_of node == 0) ≡ true = unnamed-by (links_of node == 0) (stat_seen (stat_of node)) h in
    rw free refl

named-saved : (o : Option Node) (t : told.Stat) → told_of o ≡ Some t
    → (s : Stat) × (stat_seen s ≡ t) × (saved_as o ≡ Some (record { stat = s; bytes = bytes_or_none o }))
named-saved None t h = absurd cc
named-saved (Some node) t h =
    let is = named-by (links_of node == 0) (stat_seen (stat_of node)) t h in
    (stat_of node, is.1, rw is.0 refl)

-- both have the same bytes
named-same : (o p : Option Node) (t : told.Stat) → told_of o ≡ Some t → told_of p ≡ Some t
    → bytes_or_none o ≡ bytes_or_none p → saved_as o ≡ saved_as p
named-same o p t h k same =
    let a = named-saved o t h in
    let b = named-saved p t k in
    a.2 ∙ ap (λ (s : Stat). let r : Saved = record { stat = s; bytes = bytes_or_none o } in Some r)
    (same-stat a.0 b.0 (a.1 ∙ sym b.1))
    ∙ ap (λ xs. let r : Saved = record { stat = b.0; bytes = xs } in Some r) same
    ∙ sym b.2

-- what is reported is the same, and so are the bytes
pub same-file : (o p : Option Node) (x y : Option told.Stat) → x ≡ told_of o → y ≡ told_of p → x ≡ y
    → bytes_or_none o ≡ bytes_or_none p → saved_as o ≡ saved_as p
same-file o p None y is yis same bytes =
    unnamed o (sym is) ∙ sym (unnamed p (sym yis ∙ sym same))
same-file o p (Some t) y is yis same bytes = named-same o p t (sym is) (sym yis ∙ sym same) bytes

pub same-unnamed : (o p : Option Node) (x y : Option told.Stat) → x ≡ told_of o → y ≡ told_of p → x ≡ y
    → x ≡ None → saved_as o ≡ saved_as p
same-unnamed o p x y is yis same none =
    unnamed o (sym is ∙ none) ∙ sym (unnamed p (sym yis ∙ sym same ∙ none))

-- ---- a loop over what both have

abbrev bytes_in : View → ℕ → List ℕ
bytes_in m n = bytes_or_none (slot m.state.files n)

abbrev saved_in : View → ℕ → Option Saved
saved_in m n = saved_as (slot m.state.files n)

pub says-some : {X : Type 0} (P : X → Type 0) (o : Option X) (x : X) → o ≡ Some x → IfSome o P → P x
says-some P o x is h = subst (λ o. IfSome o P) is h

module _ (one one1 one2 other other1 other2 : View) (stays : one1.state ≡ one.state)
    (other_stays : other1.state ≡ other.state) where
  -- what is said of the states now was said of those at the beginning
  pub both-since : (P : State → State → Type 0) → BothStay one1 one2 other1 other2 (P one1.state other1.state)
      → BothStay one one2 other other2 (P one.state other.state)
  both-since P h = record {
    stays = h.stays ∙ stays;
    other_stays = h.other_stays ∙ other_stays;
    says = subst (λ (s : State). P s other.state) stays
        (subst (λ (s : State). P one1.state s) other_stays h.says);
  }

  -- they are found to differ
  pub apart-since : (P Q : Type 0) → BothStay one1 one2 other1 other2 P
      → BothStay one one2 other other2 (false ≡ true → Q)
  apart-since P Q h = record {
    stays = h.stays ∙ stays;
    other_stays = h.other_stays ∙ other_stays;
    says = λ never. absurd (false≢true never);
  }

  pub piece-since : (n k count : ℕ) (same : Option ℕ) → same ≡ Some count
      → BothStay one1 one2 other1 other2 (IfSome same (IsSamePiece (bytes_in one1 n) (bytes_in other1 n) k))
      → BothStay one one2 other other2 (IsSamePiece (bytes_in one n) (bytes_in other n) k count)
  piece-since n k count same is h =
      let since = both-since
      (λ s t. IfSome same (IsSamePiece (bytes_or_none (slot s.files n)) (bytes_or_none (slot t.files n)) k)) h in
      record {
        stays = since.stays;
        other_stays = since.other_stays;
        says = says-some (IsSamePiece (bytes_in one n) (bytes_in other n) k) same count is since.says;
      }

-- what two reads of a piece return
pub same-piece : (s t : State) (n k : ℕ) (old new news : List ℕ) (count others : ℕ) → length old ≡ 1024
    → ReadsAt s n (1024 * k) old new count → ReadsAt t n (1024 * k) old news others → count ≡ others → new ≡ news
    → IsSamePiece (bytes_or_none (slot s.files n)) (bytes_or_none (slot t.files n)) k count
same-piece s t n k old new news count others long h j counts same =
    let xs = drop (1024 * k) (bytes_or_none (slot s.files n)) in
    let ys = drop (1024 * k) (bytes_or_none (slot t.files n)) in
    let one : IsRead (take 1024 xs) old new count = subst (λ c. IsRead (take c xs) old new count) long h in
    let other : IsRead (take 1024 ys) old news count =
    subst (λ m. IsRead (take 1024 ys) old news m) (sym counts)
    (subst (λ c. IsRead (take c ys) old news others) long j) in
    record { same = read-same (take 1024 xs) (take 1024 ys) old new news count one other same; long = one.count }

-- the numbers below one more
pub files-more : (one other : View) (n : ℕ) → ((k : ℕ) → k < n → saved_in one k ≡ saved_in other k)
    → saved_in one n ≡ saved_in other n → (k : ℕ) → k < n + 1 → saved_in one k ≡ saved_in other k
files-more one other n below here = below_more (λ k. saved_in one k ≡ saved_in other k) n below here

-- an answer of the last comparison
pub by-bytes : (one one1 one2 other other1 other2 : View) (n : ℕ) (x y : Option told.Stat) (result : Result Bool Halt)
    → one1.state ≡ one.state → other1.state ≡ other.state
    → x ≡ told_of (slot one.state.files n) → y ≡ told_of (slot other.state.files n) → x ≡ y
    → IfOk result (λ same. BothStay one1 one2 other1 other2 (same ≡ true → bytes_in one1 n ≡ bytes_in other1 n))
    → IfOk result (λ same. BothStay one one2 other other2 (same ≡ true → saved_in one n ≡ saved_in other n))
by-bytes one one1 one2 other other1 other2 n x y (Err halt) stays other_stays is yis same h = tt
by-bytes one one1 one2 other other1 other2 n x y (Ok b) stays other_stays is yis same h =
    let since = both-since one one1 one2 other other1 other2 stays other_stays
    (λ s t. b ≡ true → bytes_or_none (slot s.files n) ≡ bytes_or_none (slot t.files n)) h in
    record {
      stays = since.stays;
      other_stays = since.other_stays;
      says = λ right. same-file (slot one.state.files n) (slot other.state.files n) x y is yis same (since.says right);
    }

pub none-by : {X : Type 0} (o : Option X) → is_none o ≡ true → o ≡ None
none-by None none = refl
none-by (Some x) none = absurd cc
