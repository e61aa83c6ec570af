-- One more name keeps the rules: of a new file, of a new directory, or of a file or a device.
use Rattle.name_rules.proofs.Common.{◌≡◌, ◌≢◌, ℕ, suc, ◌+◌, ◌<◌, ◌≤◌, false, true, cond, List, None, Option, Some}
use Rattle.name_rules.proofs.Common.{length, ap, sym, refl, ◌∙◌, arith, subst, option_map, unwrap_or, ◌==◌, cond-false}
use Rattle.name_rules.proofs.Common.{ne_eqb, get_or-set_other, get_or-set_same, Entry, Files, Node, Spot, is_directory}
use Rattle.name_rules.proofs.Common.{links_of, slot, Directory, KeepsSize, names_of, Changed, shape, KeepsLive}
use Rattle.name_rules.proofs.Common.{KeepsTree, folders, names_by, names_for, ap₂, is_some, false≢true, ltb-true}
use Rattle.name_rules.proofs.Common.{set-set, none-some, change_node, enter, most_links, put, Made, make_at, Bool}
use Rattle.name_rules.proofs.Common.{and_parts, not-true, linked, made_at, made_directory}
use Rattle.name_rules.proofs.Counts.{counted-none, names_by-none, none-is}
use Rattle.name_rules.proofs.Finding.{slot-within, IsEntered, IsGap, IsMade, change-is, enter-parts, make-parts, mapped}
use Rattle.name_rules.proofs.Spots.{IsSpot, gap-from}
use Rattle.name_rules.proofs.Changing.{both, directory-is, gets-name, relinked}
use Rattle.unixmodel.specs.NameCalls.{has_room_for_link, linked_node, made_below, more_links, new_directory}

-- ---- a new node

module _ {files : Files} (keeps : KeepsTree files) (at : Spot) (spot : IsGap files at) (node : ℕ → Node) (made : Made)
    (h : make_at files at node ≡ Some made) where
  abbrev n : ℕ
  n = made.number

  abbrev d : ℕ
  d = at.directory

  is : IsMade files at node made
  is = make-parts files at node made h

  added : IsEntered (put files n (node n)) at n made.files
  added = enter-parts _ at n _ is.entered

  -- a number that is free is not the root's, nor a directory's
  used-apart : (m : ℕ) (x : Node) → slot files m ≡ Some x → n ≢ m
  used-apart m x used e = none-some x (sym is.free.free ∙ ap (slot files) e ∙ used)

  before : slot files d ≡ Some (Directory (suc added.links) added.places)
  before = sym (get_or-set_other files n d _ None (λ s. used-apart d _ spot.here (sym s))) ∙ added.here

  unnamed : names_of files n ≡ 0
  unnamed = keeps.named n ∙ ap (names_for n) is.free.free

  other : n ≢ 1
  other = used-apart 1 _ keeps.root.here

  makes : (r : ℕ) → KeepsSize (Some (node n)) → r ≡ added.links + cond (is_directory (node n)) 1 0
      → names_for n (Some (node n)) ≡ 1 → ((m : ℕ) → names_by (Some (node n)) m ≡ 0) → links_of (node n) ≡ 1
      → ((more : Files) → 1 ≤ names_by (slot more d) n → KeepsLive more n (Some (node n)))
      → Changed files (both files n (node n) d (Directory (suc r) added.next))
  makes r size links one silent linked live = gets-name keeps at spot before added.placed
      (record {
        within = is.free.within;
        apart = used-apart d _ before;
        other = other;
        quiet = λ m. silent m ∙ sym (ap (λ o. names_by o m) is.free.free ∙ names_by-none m);
        kind = λ some. absurd (omega (arith, some, unnamed));
        same = λ used. absurd (false≢true (sym (ap is_some is.free.free) ∙ used));
        size = size;
      })
      (record {
        links = links;
        grows = one ∙ ap (λ o. names_for n o + 1) (sym is.free.free);
        silent = silent;
        fresh = λ _. unnamed;
        linked = λ z. absurd (omega (arith, z, linked));
        live = live;
      })

-- a new file or device
pub record IsNewFile (node : Node) : Type 0 where
  pub kind : is_directory node ≡ false
  pub links : links_of node ≡ 1
  pub size : KeepsSize (Some node)

file-names : (n : ℕ) (node : Node) → is_directory node ≡ false → names_for n (Some node) ≡ links_of node
file-names n (Directory links places) h = absurd (false≢true (sym h))
file-names n _ h = refl

file-live : (files : Files) (n : ℕ) (node : Node) → is_directory node ≡ false → links_of node ≤ most_links
    → KeepsLive files n (Some node)
file-live files n (Directory links places) h l = absurd (false≢true (sym h))
file-live files n _ h l = l

file-silent : (node : Node) → is_directory node ≡ false → (m : ℕ) → names_by (Some node) m ≡ 0
unfolding names_by
file-silent (Directory links places) h m = absurd (false≢true (sym h))
file-silent _ h m = refl

pub makes-file : {files : Files} (keeps : KeepsTree files) (at : Spot) → IsGap files at → (node : ℕ → Node)
    → ((n : ℕ) → IsNewFile (node n)) → (made : Made) → make_at files at node ≡ Some made → Changed files made.files
makes-file {files} keeps at spot node new made h =
    let n = made.number in
    let x = new n in
    let e = added keeps at spot node made h in
    subst (Changed files) (sym e.is)
    (makes keeps at spot node made h e.links x.size (omega (arith, counted-none x.kind))
    (file-names n _ x.kind ∙ x.links) (file-silent _ x.kind) x.links
    (λ more _. file-live more n _ x.kind (omega (arith, x.links))))

-- ---- a new directory, with one more link of the one above

new-live : (more : Files) (n d : ℕ) → n ≢ 1 → 1 ≤ names_by (slot more d) n → KeepsLive more n (Some (new_directory d n))
unfolding folders
new-live more n d s h = record {
  own = refl;
  up = d;
  parent = refl;
  above = record { root = λ e. absurd (s e); names = λ t. h };
  good = refl;
  once = λ name. omega arith;
  counted = refl;
}

pub makes-directory : {files : Files} (keeps : KeepsTree files) (at : Spot) → IsGap files at → (made : Made)
    → make_at files at (new_directory at.directory) ≡ Some made
    → Changed files (change_node made.files at.directory more_links)
unfolding names_by
makes-directory {files} keeps at spot made h =
    let d = at.directory in
    let n = made.number in
    let new = new_directory d n in
    let e = added keeps at spot _ made h in
    let s = other keeps at spot _ made h in
    let within : d < length (put files n new) = slot-within _ d _ e.here in
    let more : suc e.links + 1 ≡ suc (suc e.links) = omega arith in
    let last : change_node _ d _ ≡ both files n new d _ =
    change-is _ d _ _ (ap (λ fs. slot fs d) e.is ∙ get_or-set_same _ d _ None within)
    ∙ ap₂ (λ c fs. put fs d (Directory c e.next)) more e.is ∙ set-set _ d _ _ in
    subst (Changed files) (sym last)
    (makes keeps at spot (new_directory d) made h (suc e.links) (omega arith) (omega arith)
    (cond-false (n == 1) 0 1 (ne_eqb n 1 s)) (λ m. refl) refl (λ fs. new-live fs n d s))

-- ---- one more name for a file or a device

pub links-file : {files : Files} (keeps : KeepsTree files) (at : Spot) → IsGap files at → (n : ℕ) (node : Node)
    → slot files n ≡ Some node → is_directory node ≡ false → has_room_for_link node ≡ true
    → (more : Files) → enter (change_node files n more_links) at n ≡ Some more → Changed files more
links-file {files} keeps at spot n node here kind room more h =
    let d = at.directory in
    let k = links_of node + 1 in
    let again = relinked node k in
    let new = more_links node in
    let plain : is_directory new ≡ false = again.kind ∙ kind in
    let many : links_of new ≡ k = again.links in
    let e = enter-parts (change_node files n _) at n more h in
    let is = change-is files n _ node here in
    let fewer = ltb-true (links_of node) _ room in
    let apart : (m l : ℕ) (ps : List (Option Entry)) → slot files m ≡ Some (Directory l ps) → n ≢ m =
    λ m l ps at s. false≢true
    (sym kind ∙ ap (λ o. unwrap_or (option_map is_directory o) false) (sym here ∙ ap (slot files) s ∙ at)) in
    let away = apart d (suc spot.links) spot.places spot.here in
    let before : slot files d ≡ Some (Directory (suc e.links) e.places) =
    sym (ap (λ fs. slot fs d) is ∙ get_or-set_other files n d (Some new) None (λ s. away (sym s))) ∙ e.here in
    subst (Changed files) (sym (e.is ∙ ap (λ fs. put fs d (Directory (suc e.links) e.next)) is))
    (gets-name keeps at spot before e.placed
    (record {
      within = slot-within files n node here;
      apart = away;
      other = apart 1 (suc keeps.root.links) keeps.root.places keeps.root.here;
      quiet = λ m. again.names m ∙ ap (λ o. names_by o m) (sym here);
      kind = λ _. plain ∙ sym (directory-is files n node here ∙ kind);
      same = λ used. again.stays ∙ ap (option_map shape) (sym here);
      size = again.size (subst KeepsSize here (keeps.sizes n));
    })
    (record {
      links = omega (arith, counted-none plain);
      grows = file-names n new plain ∙ many ∙ ap (λ c. c + 1) (sym (ap (names_for n) here ∙ file-names n node kind));
      silent = file-silent new plain;
      fresh = λ t. absurd (false≢true (sym plain ∙ t));
      linked = λ z. absurd (omega (arith, many, z));
      live = λ fs _. file-live fs n new plain (omega (arith, many, fewer));
    }))

-- ---- the files that calls on names make keep the rules, where they return some

passed : {X : Type 0} (b : Bool) (o : Option X) (x : X) → cond b o None ≡ Some x → (b ≡ true) × (o ≡ Some x)
passed true o x h = (refl, h)
passed false o x h = absurd (none-some x h)

module _ {files : Files} (keeps : KeepsTree files) (at : Spot) (spot : IsSpot files at) where
  -- a file or a device
  pub keeps-made : (node : ℕ → Node) → ((n : ℕ) → IsNewFile (node n)) → (made : Made)
      → made_at files at node ≡ Some made → Changed files made.files
  unfolding made_at
  keeps-made node new made h =
      let is = passed _ _ made h in
      makes-file keeps at (gap-from keeps at spot (none-is _ is.0)) node new made is.1

  pub keeps-made-directory : (more : Files) → made_directory files at ≡ Some more → Changed files more
  unfolding made_directory
  keeps-made-directory more h = go (slot files _) h where
    go : (o : Option Node) → made_below files at o ≡ Some more → Changed files more
    go None h = absurd (none-some more h)
    go (Some parent) h =
        let grown : Made → Files = λ made. change_node _ _ _ in
        let is = passed _ _ more h in
        let made = mapped grown _ more is.1 in
        subst (Changed files) made.2
        (makes-directory keeps at (gap-from keeps at spot (none-is _ (and_parts _ _ is.0).0)) made.0 made.1)

  pub keeps-linked : (n : ℕ) (more : Files) → linked files at n ≡ Some more → Changed files more
  unfolding linked
  keeps-linked n more h = go _ refl h where
    go : (o : Option Node) → slot files n ≡ o → linked_node files at n o ≡ Some more → Changed files more
    go None at-n h = absurd (none-some more h)
    go (Some node) at-n h =
        let is = passed _ _ more h in
        let all = and_parts _ _ is.0 in
        let both = and_parts _ _ all.0 in
        links-file keeps at (gap-from keeps at spot (none-is _ all.1)) n node at-n (not-true _ both.0) both.1 more is.1
