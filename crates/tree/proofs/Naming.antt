-- The names of a path, one after the other, and what they reach.
use Rattle.tree.proofs.Common.{◌≡◌, ℕ, ◌+◌, ◌-◌, ◌<◌, ◌≤◌, Bool, List, [], ◌∷◌, None, Option, Some, length, get_or}
use Rattle.tree.proofs.Common.{take, drop, map, ap, sym, refl, ◌∙◌, arith, subst, true, false, not, zero, suc, inl, inr}
use Rattle.tree.proofs.Common.{IsSome, filter, min, nat_lt, option_and_then, option_map, position, unwrap_or, ◌==◌}
use Rattle.tree.proofs.Common.{cases_lt, cond-false, cond-true, false≢true, lt-ltb, not-true, drop-drop, drop_all}
use Rattle.tree.proofs.Common.{get_or-drop, length-drop, length-take, length-take-le, take-take, take_all, take_rest}
use Rattle.tree.proofs.Common.{position-Some, none-some, same_Some, Files, find, follow, live_spot, lookup, onto_first}
use Rattle.tree.proofs.Common.{parts, pieces, slot, split_last, spot_of, start_of, with_last, KeepsTree, position-None}
use Rattle.tree.proofs.Common.{follow-used, start-used, above, reach, ◌≢◌, cond, is_some, InodeStat, Tells, LacksGap}
use Rattle.tree.proofs.Common.{IsDead, IsNoDirectory, LacksSpot, TreeFault, DeadDir, NotDir, NotFound, Node, Spot}
use Rattle.tree.proofs.Common.{live_places, Directory}
use Rattle.tree.proofs.Storing.{node-of}
use Rattle.tree.specs.declared.TreeFault.TheVariants as fault

abbrev is_slash : ℕ → Bool
is_slash b = b == 0x2f

not-false : (b : Bool) → not b ≡ false → b ≡ true
not-false true e = refl
not-false false e = absurd (false≢true (sym e))

take-min : (n : ℕ) (xs : List ℕ) → take 14 (take n xs) ≡ take (min n 14) xs
take-min n xs = elim (cases_lt n 14) [
  | inl l ↦ let e : n ≡ min n 14 = omega arith in take_all 14 (take n xs) (omega (arith, length-take n xs))
      ∙ ap (λ k. take k xs) e
  | inr m ↦ let e : 14 ≡ min n 14 = omega arith in take-take 14 n xs m ∙ ap (λ k. take k xs) e
]

-- ---- slashes and names

-- slashes at the front are passed over
parts-skip : (bs : List ℕ) (i : ℕ) → i ≤ length bs → ((k : ℕ) → k < i → is_slash (get_or bs k 0) ≡ true)
    → parts bs ≡ parts (drop i bs)
unfolding parts
parts-skip bs zero h slashes = refl
parts-skip [] (suc i) h slashes = absurd (omega arith)
parts-skip (b ∷ bs) (suc i) h slashes =
    ap (λ ws. map (take 14) (filter (λ w. nat_lt 0 (length w)) ws)) (cond-true _ _ _ (slashes 0 (omega arith)))
    ∙ parts-skip bs i (omega arith) (λ k l. slashes (suc k) (omega arith))

pub pieces-split : (bs : List ℕ) (i : ℕ) → i < length bs → is_slash (get_or bs i 0) ≡ true
    → ((k : ℕ) → k < i → is_slash (get_or bs k 0) ≡ false) → pieces bs ≡ take i bs ∷ pieces (drop (suc i) bs)
pieces-split [] i h slash none = absurd (omega arith)
pieces-split (b ∷ bs) zero h slash none = cond-true _ _ _ slash
pieces-split (b ∷ bs) (suc i) h slash none =
    cond-false _ _ _ (none 0 (omega arith))
    ∙ ap (onto_first b) (pieces-split bs i (omega arith) slash (λ k l. none (suc k) (omega arith)))

pub pieces-whole : (bs : List ℕ) → ((k : ℕ) → k < length bs → is_slash (get_or bs k 0) ≡ false) → pieces bs ≡ bs ∷ []
pieces-whole [] none = refl
pieces-whole (b ∷ bs) none =
    cond-false _ _ _ (none 0 (omega arith))
    ∙ ap (onto_first b) (pieces-whole bs (λ k l. none (suc k) (omega arith)))

-- a piece with bytes is a name
parts-piece : (bs w : List ℕ) (ws rest : List (List ℕ)) → pieces bs ≡ w ∷ ws → 1 ≤ length w
    → map (take 14) (filter (λ w. nat_lt 0 (length w)) ws) ≡ rest → parts bs ≡ take 14 w ∷ rest
unfolding parts
parts-piece bs w ws rest e some same =
    ap (λ xs. map (take 14) (filter (λ w. nat_lt 0 (length w)) xs)) e
    ∙ ap (map (take 14)) (cond-true _ (w ∷ filter (λ w. nat_lt 0 (length w)) ws) (filter (λ w. nat_lt 0 (length w)) ws)
    (lt-ltb 0 _ some))
    ∙ ap (λ r. take 14 w ∷ r) same

parts-nothing : parts [] ≡ []
unfolding parts
parts-nothing = refl

-- the parts after a slash
parts-behind : (bs : List ℕ) (i : ℕ) → i < length bs → is_slash (get_or bs i 0) ≡ true
    → parts (drop i bs) ≡ parts (drop (suc i) bs)
parts-behind bs i h slash =
    let next : i + 1 ≡ suc i = omega arith in
    parts-skip (drop i bs) 1 (omega (arith, length-drop i bs))
    (λ k l. (let z : i + k ≡ i = omega arith in ap is_slash (get_or-drop i bs k 0 ∙ ap (λ j. get_or bs j 0) z)
    ∙ slash)) ∙ ap parts (drop-drop 1 i bs ∙ ap (λ k. drop k bs) next)

-- the name at the front
pub record IsFront (bs : List ℕ) (end : ℕ) : Type 0 where
  pub some : 1 ≤ end
  pub within : end ≤ length bs
  pub parts : parts bs ≡ take 14 (take end bs) ∷ parts (drop end bs)

module _ (bs : List ℕ) (some : 1 ≤ length bs) (first : is_slash (get_or bs 0 0) ≡ false) where
  front-split : (i : ℕ) → position (λ b. b == 0x2f) bs ≡ Some i → IsFront bs i
  unfolding parts
  front-split i at =
      let s = position-Some (λ b. b == 0x2f) bs i 0 at in
      let positive : 1 ≤ i = elim (cases_lt 0 i) [
        | inl l ↦ l
        | inr m ↦ let z : i ≡ 0 = omega arith
            in absurd (false≢true (sym first ∙ ap (λ k. is_slash (get_or bs k 0)) (sym z) ∙ s.1))
      ] in
      record {
        some = positive;
        within = let h = s.0 in omega arith;
        parts = parts-piece bs _ _ _ (pieces-split bs i s.0 s.1 s.2)
            (let h = s.0 in omega (arith, length-take-le i bs (omega arith))) (sym (parts-behind bs i s.0 s.1));
      }

  front-whole : position (λ b. b == 0x2f) bs ≡ None → IsFront bs (length bs)
  unfolding parts
  front-whole none = record {
    some = some;
    within = omega arith;
    parts = parts-piece bs bs [] [] (pieces-whole bs (position-None (λ b. b == 0x2f) bs 0 none)) some refl
        ∙ ap (λ w. take 14 w ∷ []) (sym (take_all (length bs) bs (omega arith)))
        ∙ ap (λ r. take 14 (take (length bs) bs) ∷ r)
        (sym (ap parts (drop_all (length bs) bs (omega arith)) ∙ parts-nothing));
  }

  front-of : (o : Option ℕ) → position (λ b. b == 0x2f) bs ≡ o → IsFront bs (unwrap_or o (length bs))
  front-of None e = front-whole e
  front-of (Some i) e = front-split i e

-- ---- the first name

pub no-name : (path : List ℕ) → position (λ b. not (b == 0x2f)) path ≡ None → parts path ≡ []
no-name path none =
    parts-skip path (length path) (omega arith)
    (λ k h. not-false _ (position-None (λ b. not (b == 0x2f)) path 0 none k h))
    ∙ ap parts (drop_all (length path) path (omega arith)) ∙ parts-nothing

pub record IsFirst (path : List ℕ) (i end : ℕ) : Type 0 where
  pub parts : parts path ≡ take (min end 14) (drop i path) ∷ parts (drop end (drop i path))
  pub shorter : length (drop end (drop i path)) < length path
  pub within : end ≤ length (drop i path)

first-name : (path : List ℕ) (i end : ℕ) → position (λ b. not (b == 0x2f)) path ≡ Some i
    → end ≡ unwrap_or (position (λ b. b == 0x2f) (drop i path)) (length (drop i path)) → IsFirst path i end
first-name path i end at is =
    let s = position-Some (λ b. not (b == 0x2f)) path i 0 at in
    let high = s.0 in
    let z : i + 0 ≡ i = omega arith in
    let front = front-of (drop i path) (omega (arith, length-drop i path))
    (ap is_slash (get_or-drop i path 0 0 ∙ ap (λ k. get_or path k 0) z) ∙ not-true _ s.1)
    (position (λ b. b == 0x2f) (drop i path)) refl in
    let e = sym is in
    let some : 1 ≤ end = subst (λ k. 1 ≤ k) e front.some in
    let within : end ≤ length (drop i path) = subst (λ k. k ≤ length (drop i path)) e front.within in
    record {
      parts = parts-skip path i (omega arith) (λ k h. not-false _ (s.2 k h))
          ∙ subst (λ k. parts (drop i path) ≡ take 14 (take k (drop i path)) ∷ parts (drop k (drop i path))) e
          front.parts
          ∙ ap (λ w. w ∷ parts (drop end (drop i path))) (take-min end _);
      shorter = omega (arith, length-drop end (drop i path), length-drop i path);
      within = within;
    }

-- ---- what names reach

module _ (files : Files) (k : ℕ) (name : List ℕ) (names : List (List ℕ)) where
  module _ (w : List ℕ) (ws : List (List ℕ)) (more : names ≡ w ∷ ws) where
    reach-more : reach files k (name ∷ names) ≡ option_and_then (λ m. reach files m (w ∷ ws)) (lookup files k name)
    reach-more = ap (λ xs. reach files k (name ∷ xs)) more ∙ go (lookup files k name) where
      go : (o : Option ℕ) → option_map (λ n. (n, (with_last w (split_last ws)).1))
          (option_and_then (λ m. follow files m (with_last w (split_last ws)).0) o)
          ≡ option_and_then (λ m. reach files m (w ∷ ws)) o
      go None = refl
      go (Some m) = refl

    pub reach-next : {o : Option ℕ} → lookup files k name ≡ o
        → reach files k (name ∷ names) ≡ option_and_then (λ m. reach files m (w ∷ ws)) o
    reach-next e = reach-more ∙ ap (option_and_then (λ m. reach files m (w ∷ ws))) e

pub follow-next : (files : Files) (k : ℕ) (names : List (List ℕ)) (name : List ℕ) (ws : List (List ℕ))
    → names ≡ name ∷ ws → {o : Option ℕ} → lookup files k name ≡ o
    → follow files k names ≡ option_and_then (λ n. follow files n ws) o
follow-next files k names name ws e at = ap (follow files k) e ∙ ap (option_and_then (λ n. follow files n ws)) at

-- the first name and what follows it, as a path is cut
module _ (path rest : List ℕ) (i end cut : ℕ) (o : Option ℕ) (at : position (λ b. not (b == 0x2f)) path ≡ Some i)
    (from : rest ≡ drop i path) (slash : o ≡ position (λ b. b == 0x2f) rest) (is : end ≡ unwrap_or o (length rest))
    (cuts : cut ≡ min end 14) where
  first : IsFirst path i end
  first = first-name path i end
      at (is ∙ ap (λ q. unwrap_or q (length rest)) slash
      ∙ ap (λ r. unwrap_or (position (λ b. b == 0x2f) r) (length r)) from)

  pub cut-parts : parts path ≡ take cut rest ∷ parts (take (length rest - end) (drop end rest))
  cut-parts =
      first.parts
      ∙ ap (λ r. take (min end 14) r ∷ parts (drop end r)) (sym from)
      ∙ ap (λ k. take k rest ∷ parts (drop end rest)) (sym cuts)
      ∙ ap (λ t. take cut rest ∷ parts t) (sym (take_rest rest end))

  pub cut-shorter : length (take (length rest - end) (drop end rest)) < length path
  cut-shorter =
      let s = first.shorter in
      let e : length (take (length rest - end) (drop end rest)) ≡ length (drop end (drop i path)) =
      ap length (take_rest rest end) ∙ ap (λ r. length (drop end r)) from in
      omega arith

-- ---- where a path starts

pub find-start : (files : Files) (d : ℕ) (path : List ℕ) (n : ℕ) → n ≡ start_of d path
    → follow files n (parts path) ≡ find files d path
unfolding find
find-start files d path n e = ap (λ k. follow files k (parts path)) e

pub above-start : (files : Files) (d : ℕ) (path : List ℕ) (n : ℕ) (name : List ℕ) (names : List (List ℕ))
    → n ≡ start_of d path → parts path ≡ name ∷ names → reach files n (name ∷ names) ≡ above files d path
unfolding above
above-start files d path n name names e p = ap (reach files n) (sym p) ∙ ap (λ k. reach files k (parts path)) e

pub above-nothing : (files : Files) (d : ℕ) (path : List ℕ) → parts path ≡ [] → None ≡ above files d path
unfolding above
above-nothing files d path p = sym (ap (reach files (start_of d path)) p)

pub start-held : {files : Files} → KeepsTree files → (d : ℕ) (path : List ℕ) → IsSome (slot files d) → (n : ℕ)
    → n ≡ start_of d path → IsSome (slot files n)
start-held {files} keeps d path used n e = subst (λ k. IsSome (slot files k)) (sym e) (start-used keeps d path used)

-- ---- what lies above a last name

module _ {files : Files} (keeps : KeepsTree files) (d : ℕ) (path : List ℕ) (used : IsSome (slot files d)) (k : ℕ)
    (name : List ℕ) (is : above files d path ≡ Some (k, name)) where
  above-used : IsSome (slot files k)
  unfolding above
  above-used = go (split_last (parts path)) is where
    at : (w : List ℕ) (names : List (List ℕ)) (o : Option ℕ) → follow files (start_of d path) names ≡ o
        → option_map (λ m. let two : ℕ × List ℕ = (m, w) in two) o ≡ Some (k, name) → IsSome (slot files k)
    at w names None e h = absurd (none-some _ h)
    at w names (Some m) e h =
        subst (λ j. IsSome (slot files j)) (ap (λ (two : ℕ × List ℕ). two.0) (same_Some _ _ h))
        (follow-used keeps _ _ m (start-held keeps d path used _ refl) e)

    go : (o : Option (List (List ℕ) × List ℕ))
        → option_and_then (λ (split : List (List ℕ) × List ℕ). option_map
        (λ m. let two : ℕ × List ℕ = (m, split.1) in two) (follow files (start_of d path) split.0)) o ≡ Some (k, name)
        → IsSome (slot files k)
    go None h = absurd (none-some _ h)
    go (Some split) h = at split.1 split.0 (follow files (start_of d path) split.0) refl h

-- a spot is what lies above, where it is a directory with links
abbrev pub live_at : Files → Option (ℕ × List ℕ) → Option Spot
live_at files o = option_and_then (λ (two : ℕ × List ℕ). live_spot files two.1 two.0) o

pub spot-above : (files : Files) (d : ℕ) (path : List ℕ) → spot_of files d path ≡ live_at files (above files d path)
unfolding spot_of above
spot-above files d path = go (split_last (parts path)) where
  at : (name : List ℕ) (o : Option ℕ)
      → option_and_then (live_spot files name) o ≡ live_at files (option_map (λ k. (k, name)) o)
  at name None = refl
  at name (Some k) = refl

  go : (o : Option (List (List ℕ) × List ℕ))
      → option_and_then (λ split. option_and_then (live_spot files split.1) (follow files (start_of d path) split.0)) o
      ≡ live_at files (option_and_then
      (λ split. option_map (λ k. (k, split.1)) (follow files (start_of d path) split.0)) o)
  go None = refl
  go (Some split) = at split.1 (follow files (start_of d path) split.0)

-- ---- the directory of the last name, as the disk reports it

pub spot-none : (files : Files) (d : ℕ) (path : List ℕ) → above files d path ≡ None → spot_of files d path ≡ None
spot-none files d path e = spot-above _ d path ∙ ap (live_at files) e

abbrev pub spot_at : ℕ → List ℕ → Spot
spot_at k name = record { directory = k; name = name }

module _ (files : Files) (d : ℕ) (path : List ℕ) {k : ℕ} {name : List ℕ} (is : above files d path ≡ Some (k, name))
  where
    spot-is : {o : Option Node} → slot files k ≡ o
        → spot_of files d path ≡ cond (is_some (live_places o)) (Some (spot_at k name)) None
    spot-is here = spot-above _ d path ∙ ap (live_at files) is
        ∙ ap (λ o. cond (is_some (live_places o)) (Some (spot_at k name)) None) here

    pub no-spot : live_places (slot files k) ≡ None → spot_of files d path ≡ None
    no-spot dead = spot-is refl ∙ ap (λ o. cond (is_some o) (Some (spot_at k name)) None) dead

module _ {files : Files} (keeps : KeepsTree files) (d : ℕ) (path : List ℕ) (used : IsSome (slot files d)) (k : ℕ)
    (name : List ℕ) (is : above files d path ≡ Some (k, name)) where
  pub above-node : (x : Node) × (slot files k ≡ Some x)
  above-node = node-of _ (above-used keeps d path used k name is)

  -- from the attributes of what lies above
  module _ {s : InodeStat} (told : (x : Node) → slot files k ≡ Some x → Tells s x) where
    pub spot-other : s.kind ≢ 1 → (spot_of files d path ≡ None) × IsNoDirectory files d path
    spot-other h = go above-node.0 above-node.1 where
      go : (x : Node) → slot files k ≡ Some x → (spot_of files d path ≡ None) × IsNoDirectory files d path
      go (Directory l places) here = absurd (h (told (Directory l places) here).0)
      go x here = (
        no-spot _ d path is (ap live_places here),
        record { number = k; name = name; node = x; above = is; here = here; other = refl },
      )

    pub spot-bare : s.kind ≡ 1 → s.links ≡ 0 → (spot_of files d path ≡ None) × IsDead files d path
    spot-bare one none = go above-node.0 above-node.1 where
      go : (x : Node) → slot files k ≡ Some x → (spot_of files d path ≡ None) × IsDead files d path
      go (Directory zero places) here = (
        no-spot _ d path is (ap live_places here),
        record { number = k; name = name; places = places; above = is; here = here },
      )
      go (Directory (suc l) places) here = let e = (told (Directory (suc l) places) here).1 in absurd (omega arith)
      go x here = let e = (told x here).0 in absurd (omega arith)

    pub spot-live : s.kind ≡ 1 → s.links ≢ 0 → spot_of files d path ≡ Some (spot_at k name)
    spot-live one some = go above-node.0 above-node.1 where
      go : (x : Node) → slot files k ≡ Some x → spot_of files d path ≡ Some (spot_at k name)
      go (Directory zero places) here = absurd (some (told (Directory zero places) here).1)
      go (Directory (suc l) places) here = spot-is _ d path is here
      go x here = let e = (told x here).0 in absurd (omega arith)

-- a path without a spot has no room for a name
pub spot-lacks : (limit : ℕ) (files : Files) (d : ℕ) (path : List ℕ) (more : ℕ) (told : TreeFault)
    → LacksSpot files d path told → LacksGap limit files d path more told
spot-lacks limit files d path more NotFound why = why
spot-lacks limit files d path more NotDir why = why
spot-lacks limit files d path more DeadDir why = why
spot-lacks limit files d path more fault.Device why = tt
spot-lacks limit files d path more _ why = absurd why
