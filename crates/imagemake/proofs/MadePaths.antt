-- Paths that lead to directories that are made, and the spot of a path's last name.
use Rattle.imagemake.proofs.Common.{◌≡◌, ℕ, zero, suc, ◌≤◌, Bool, true, false, cond, List, [], ◌∷◌, ◌++◌, None, Option}
use Rattle.imagemake.proofs.Common.{Some, ap, refl, arith, option_and_then, position, Files, ◌+◌, length, ap₂, sym, ◌∙◌}
use Rattle.imagemake.proofs.Common.{◌&&◌, ◌==◌, list_all, and_parts, false≢true, cond-false, is_name, added, IsListed}
use Rattle.imagemake.proofs.Common.{MadeName, found, is_folder, seek, Thing, ◌<◌, get_or, take, drop, eqb-true}
use Rattle.imagemake.proofs.Common.{length-append, length-take-le, position-Some, onto_first, pieces, LeadsTo, reach}
use Rattle.imagemake.proofs.Common.{ManifestEntry, with_manifest_entry, Err, is_some, nat_le, list_all-append}
use Rattle.imagemake.proofs.Common.{none-some, some_pair_parts, same_Some, split_last, with_last, if_room, names_in}
use Rattle.imagemake.proofs.Common.{Inodes, Name, Twice, IsSpot}
use Rattle.imagemake.proofs.Pathing.{reach_found, reach_some, split-pieces}
use Rattle.std.proofs.lemmas.List.{append_assoc, drop_more, take-append-drop, take_at}
use Rattle.unixmodel.specs.Files.{follow}
use Rattle.unixmodel.specs.Manifest.{with_name, with_names, with_split}

-- ---- names in turn

pub follow-made : (made : List MadeName) (files : Files) → IsListed files made → (ws : List (List ℕ))
    → list_all is_name ws ≡ true → (d : ℕ) → follow files d ws ≡ seek made d ws
follow-made made files listed [] good d = refl
follow-made made files listed (w ∷ ws) good d =
    let parts = and_parts (is_name w) (list_all is_name ws) good in
    λ j. option_and_then (λ next. follow-made made files listed ws parts.1 next j) (listed.names d w parts.0 j)

-- ---- paths that lead to directories that are made

pieces_upto : (rest : List ℕ) (i : ℕ) (bs : List ℕ) → i ≤ length rest
    → ((k : ℕ) → k < i → (get_or rest k 0 == 0x2f) ≡ false)
    → pieces (take i rest ++ 0x2f ∷ bs) ≡ take i rest ∷ pieces bs
pieces_upto rest zero bs h none = refl
pieces_upto [] (suc i) bs h none = absurd (omega arith)
pieces_upto (b ∷ rest) (suc i) bs h none =
    cond-false _ _ _ (none 0 (omega arith))
    ∙ ap (onto_first b) (pieces_upto rest i bs (omega arith) (λ k l. none (suc k) (omega arith)))

module _ (path above rest : List ℕ) (i : ℕ) (joined : path ≡ above ++ 0x2f ∷ rest)
    (slash : position (λ b. b == 0x2f) rest ≡ Some i) where
  slashed : (i < length rest) × ((get_or rest i 0 == 0x2f) ≡ true)
      × ((k : ℕ) → k < i → (get_or rest k 0 == 0x2f) ≡ false)
  slashed = position-Some (λ b. b == 0x2f) rest i 0 slash

  parted : rest ≡ take i rest ++ 0x2f ∷ drop (i + 1) rest
  parted = sym (take-append-drop i rest)
      ∙ ap (λ r. take i rest ++ r)
      (drop_more rest i 0 slashed.0 ∙ ap (λ b. b ∷ drop (i + 1) rest) (eqb-true _ 0x2f slashed.1))

  rejoined : path ≡ (above ++ 0x2f ∷ take i rest) ++ 0x2f ∷ drop (i + 1) rest
  rejoined = joined ∙ ap (λ r. above ++ 0x2f ∷ r) parted
      ∙ sym (append_assoc above (0x2f ∷ take i rest) (0x2f ∷ drop (i + 1) rest))

  pub above-next : take (length above + 1 + i) path ≡ above ++ 0x2f ∷ take i rest
  above-next =
      ap (take (length above + 1 + i)) rejoined
      ∙ take_at (above ++ 0x2f ∷ take i rest) (0x2f ∷ drop (i + 1) rest) (length above + 1 + i)
      (length-append above (0x2f ∷ take i rest) ∙ omega (arith, length-take-le i rest (omega (arith, slashed.0))))

  pub joined-next : {now next : List ℕ} → now ≡ above ++ 0x2f ∷ take i rest → next ≡ drop (i + 1) rest
      → path ≡ now ++ 0x2f ∷ next
  joined-next now next = rejoined ∙ ap₂ (λ a r. a ++ 0x2f ∷ r) (sym now) (sym next)

  -- a name that is found leads on
  pub leads-next : {now : List ℕ} → now ≡ above ++ 0x2f ∷ take i rest → {made : List MadeName} {d next : ℕ}
      → LeadsTo made above d → found made d (take i rest) ≡ Some next → LeadsTo made now next
  leads-next now {d = d} {next = next} leads told = record {
    below = λ more kept bs.
        ap (λ a. reach more 1 (pieces (drop 1 (a ++ 0x2f ∷ bs)))) now
        ∙ ap (λ t. reach more 1 (pieces (drop 1 t))) (append_assoc above (0x2f ∷ take i rest) (0x2f ∷ bs))
        ∙ leads.below more kept (take i rest ++ 0x2f ∷ bs)
        ∙ ap (reach more d) (pieces_upto rest i bs (omega (arith, slashed.0)) slashed.2)
        ∙ reach_found more d (take i rest) bs next (kept d (take i rest) next told);
  }

-- ---- what leads where

pub reach-below : {made : List MadeName} {above : List ℕ} {d : ℕ} → LeadsTo made above d → (path rest : List ℕ)
    → path ≡ above ++ 0x2f ∷ rest → reach made 1 (pieces (drop 1 path)) ≡ reach made d (pieces rest)
reach-below {made} leads path rest joined = ap (λ t. reach made 1 (pieces (drop 1 t))) joined
    ∙ leads.below made (λ _ _ _ told. told) rest

-- ---- the spot of a path's last name, looked up in the list of what is made

-- a slash, and good names
pub record IsPath (path : List ℕ) : Type 0 where
  pub slash : path ≡ 0x2f ∷ drop 1 path
  pub named : names_in path ≡ Some (pieces (drop 1 path))
  pub good : list_all is_name (pieces (drop 1 path)) ≡ true

pub path-is : (path : List ℕ) → is_some (names_in path) ≡ true → IsPath path
path-is [] h = absurd (false≢true h)
path-is (b ∷ rest) h = go _ refl h where
  go : (t : Bool) → (b == 0x2f && list_all is_name (pieces rest)) ≡ t
      → is_some (cond t (Some (pieces rest)) None) ≡ true → IsPath (b ∷ rest)
  go true e h =
      let both = and_parts (b == 0x2f) (list_all is_name (pieces rest)) e in
      record {
        slash = ap (λ c. c ∷ rest) (eqb-true b 0x2f both.0);
        named = ap (λ t. cond t (Some (pieces rest)) None) e;
        good = both.1;
      }
  go false e h = absurd (false≢true h)

is-none : {X : Type 0} (o : Option X) → is_some o ≡ false → o ≡ None
is-none None h = refl
is-none (Some x) h = absurd (false≢true (sym h))

split_names : (w : List ℕ) (ws : List (List ℕ))
    → w ∷ ws ≡ (with_last w (split_last ws)).0 ++ (with_last w (split_last ws)).1 ∷ []
split_names w [] = refl
split_names w (x ∷ xs) = ap (λ r. w ∷ r) (split_names x xs)

split-good : (ws above : List (List ℕ)) (last : List ℕ) → split_last ws ≡ Some (above, last)
    → list_all is_name ws ≡ true → (list_all is_name above ≡ true) × (is_name last ≡ true)
split-good [] above last split good = absurd (none-some _ split)
split-good (w ∷ ws) above last split good =
    let is = split_names w ws ∙ ap (λ (p : List (List ℕ) × List ℕ). p.0 ++ p.1 ∷ []) (same_Some _ _ split) in
    let p = and_parts (list_all is_name above) (list_all is_name (last ∷ []))
    (sym (list_all-append is_name above (last ∷ [])) ∙ ap (list_all is_name) (sym is) ∙ good) in
    (p.0, (and_parts _ true p.1).0)

-- ---- an entry

-- whose path is none
pub entry-name : (blocks inodes : ℕ) (files : Files) (n : ℕ) (e : ManifestEntry) → is_some (names_in e.path) ≡ false
    → with_manifest_entry blocks inodes files n e ≡ Err Name
unfolding with_manifest_entry
entry-name blocks inodes files n e h = ap (with_names blocks inodes files n e.thing) (is-none _ h)

-- what all but the last name reach

pub record Reaches (made : List MadeName) (path : List ℕ) (o : Option ℕ) (last : List ℕ) : Type 0 where
  pub is : IsPath path
  pub above : List (List ℕ)
  pub split : split_last (pieces (drop 1 path)) ≡ Some (above, last)
  pub seeks : seek made 1 above ≡ o

pub reaches : {made : List MadeName} {path : List ℕ} {o : Option ℕ} {last : List ℕ} → is_some (names_in path) ≡ true
    → reach made 1 (pieces (drop 1 path)) ≡ Some (o, last) → Reaches made path o last
reaches {made} {path} {o} {last} good h =
    let s = split-pieces (drop 1 path) in
    let e = some_pair_parts _ o s.0.1 last (sym (reach_some made 1 (pieces (drop 1 path)) s.0 s.1) ∙ h) in
    record { is = path-is path good; above = s.0.0; split = s.1 ∙ ap (λ w. Some (s.0.0, w)) e.1; seeks = e.0 }

pub spot-reaches : {made : List MadeName} {path : List ℕ} {d : ℕ} {name : List ℕ} → IsSpot made path d name
    → Reaches made path (Some d) name
spot-reaches {path = path} spot =
    let is = path-is path (ap is_some spot.named) in
    record {
      is = is;
      above = spot.above;
      split = ap split_last (same_Some (pieces (drop 1 path)) spot.names (sym is.named ∙ spot.named)) ∙ spot.split;
      seeks = spot.reached;
    }

module _ {made : List MadeName} {path : List ℕ} {o : Option ℕ} {last : List ℕ} (r : Reaches made path o last) where
  goods : (list_all is_name r.above ≡ true) × (is_name last ≡ true)
  goods = split-good _ r.above last r.split r.is.good

  pub last-good : is_name last ≡ true
  last-good = goods.1

  pub entry-reaches : (blocks inodes : ℕ) (files : Files) (n : ℕ) (thing : Thing) → IsListed files made
      → with_manifest_entry blocks inodes files n (record { path = path; thing = thing })
      ≡ with_name blocks inodes files n thing last o
  unfolding with_manifest_entry
  entry-reaches blocks inodes files n thing listed =
      ap (with_names blocks inodes files n thing) r.is.named ∙ ap (with_split blocks inodes files n thing) r.split
      ∙ ap (with_name blocks inodes files n thing last) (follow-made made files listed r.above goods.0 1 ∙ r.seeks)

-- ---- in a directory

module _ {made : List MadeName} {path : List ℕ} {d : ℕ} {last : List ℕ} (r : Reaches made path (Some d) last)
    (folder : is_folder made d ≡ true) where
  pub spot-at : is_some (found made d last) ≡ false → IsSpot made path d last
  spot-at absent = record {
    names = pieces (drop 1 path);
    above = r.above;
    named = r.is.named;
    split = r.split;
    reached = r.seeks;
    folder = folder;
    absent = is-none _ absent;
  }

  module _ (blocks inodes : ℕ) (files : Files) (n : ℕ) (thing : Thing) (listed : IsListed files made) where
    pub entry-at : with_manifest_entry blocks inodes files n (record { path = path; thing = thing })
        ≡ cond (is_some (found made d last)) (Err Twice)
        (cond (nat_le inodes n) (Err Inodes) (if_room blocks d n (added files d last n thing)))
    entry-at = entry-reaches r blocks inodes files n thing listed
        ∙ rw (listed.folders d, folder, listed.names d last (last-good r)) refl

module _ {made : List MadeName} {path : List ℕ} {d : ℕ} {name : List ℕ} (spot : IsSpot made path d name)
    (blocks inodes : ℕ) (files : Files) (n : ℕ) (thing : Thing) (listed : IsListed files made) where
  pub entry-spot : with_manifest_entry blocks inodes files n (record { path = path; thing = thing })
      ≡ cond (nat_le inodes n) (Err Inodes) (if_room blocks d n (added files d name n thing))
  entry-spot = entry-at (spot-reaches spot) spot.folder blocks inodes files n thing listed ∙ rw spot.absent refl
