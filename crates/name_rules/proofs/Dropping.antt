-- One name less keeps the rules.
use Rattle.name_rules.proofs.Common.{◌≡◌, ◌≢◌, ℕ, suc, ◌+◌, ◌*◌, ◌≤◌, false, true, cond, List, None, Some, length, ap}
use Rattle.name_rules.proofs.Common.{sym, refl, ◌∙◌, arith, subst, bytes_eq, option_map, ◌==◌, cond-false, ne_eqb}
use Rattle.name_rules.proofs.Common.{get_or-set_other, get_or-set_same, length-set, same_Some, Entry, Files, Node, Spot}
use Rattle.name_rules.proofs.Common.{is_directory, longest, lookup, slot, Directory, KeepsSize, is_directory_at, Loses}
use Rattle.name_rules.proofs.Common.{shape, IsLive, KeepsLive, KeepsTree, entries, folders, names_by, names_for}
use Rattle.name_rules.proofs.Common.{false≢true, set-set, change_node, put, zero, ◌-◌, Bool, eqb-true, or_parts}
use Rattle.name_rules.proofs.Common.{nil_from_length, set_comm, bytes_eq-Decides, clear, dot, dot_dot, erase}
use Rattle.name_rules.proofs.Common.{is_dot_name, may_remove, unlinked}
use Rattle.name_rules.proofs.Counts.{names_by-le, HasMore, folders-more, named-here, counted-none, two-places}
use Rattle.name_rules.proofs.Counts.{counted-one, erased}
use Rattle.name_rules.proofs.Finding.{slot-within, change-is, IsNamed, unlink-parts}
use Rattle.name_rules.proofs.Changing.{both, directory-is, keeps-lost, relinked}
use Rattle.unixmodel.specs.NameCalls.{fewer_links}

-- ---- one name less keeps the rules

-- ---- a node with one link less

-- what holds of node n with one link less
pub record CanDrop (n : ℕ) (node : Node) : Type 0 where
  pub shrinks : names_for n (Some (fewer_links node)) + 1 ≡ names_for n (Some node)
  pub live : (files : Files) → KeepsLive files n (Some (fewer_links node))

folders-none : (files : Files) (es : List Entry) → length es ≡ 0 → folders files es ≡ 0
unfolding folders
folders-none files es h = rw (nil_from_length es h) refl

-- a node that has a name may go, a directory where it is bare
can-drop : (files : Files) (n : ℕ) (node : Node) → n ≢ 1 → KeepsLive files n (Some node) → 1 ≤ names_for n (Some node)
    → may_remove node ≡ true → CanDrop n node
can-drop files n (Directory zero places) s live some may = absurd (omega arith)
can-drop files n (Directory (suc links) places) s live some may =
    let bare = eqb-true _ 0 may in
    let none : suc links - 1 ≡ 0 = omega (arith, live.counted, folders-none files _ bare) in
    record {
      shrinks = ap (λ c. names_for n (Some (Directory c places)) + 1) none
          ∙ sym (cond-false (n == 1) 0 1 (ne_eqb n 1 s));
      live = λ fs. subst (λ c. KeepsLive fs n (Some (Directory c places))) (sym none)
          (nil_from_length (entries places) bare);
    }
can-drop files n _ s live some may = record { shrinks = omega arith; live = λ fs. omega arith }

-- ---- the slot

module _ {files : Files} (keeps : KeepsTree files) {at : Spot} {k n : ℕ} (named : IsNamed files at k n)
    (plain : is_dot_name at.name ≡ false) where
  abbrev from : ℕ
  from = at.directory

  live-from : IsLive files from named.links named.places
  live-from = subst (KeepsLive files from) named.here (keeps.nodes from)

  -- a name that is neither "." nor ".." comes after the first two slots
  not-at : (j : ℕ) (name : List ℕ) (m : ℕ) → slot named.places j ≡ Some (record { name = name; number = m })
      → bytes_eq at.name name ≡ false → k ≢ j
  not-at j name m h s e =
      let there = ap (λ (x : Entry). x.name)
      (same_Some (record { name = name; number = m }) (record { name = named.spelled; number = n })
      (sym h ∙ ap (slot _) (sym e) ∙ named.placed)) in
      false≢true (sym s ∙ (bytes_eq-Decides at.name name).1 (sym (there ∙ (bytes_eq-Decides _ at.name).0 named.name)))

  past-two : 2 ≤ k
  past-two =
      let parts = or_parts _ _ plain in
      let k0 = not-at 0 dot from live-from.own parts.0 in
      let k1 = not-at 1 dot_dot live-from.up live-from.parent parts.1 in
      omega arith

  loses : HasMore (clear named.places k) named.places (record { name = named.spelled; number = n })
  loses = erased (record { name = named.spelled; number = n }) (two-places live-from.own live-from.parent) k
      named.placed past-two named.within

  by-above : 1 ≤ names_by (slot files from) n
  by-above = omega (arith, ap (λ o. names_by o n) named.here, named-here loses (suc named.links) (suc named.links))

  apart-from : n ≢ from
  apart-from e =
      let here : is_directory_at files n ≡ true = ap (is_directory_at files) e
      ∙ directory-is files from (Directory (suc named.links) named.places) named.here in
      omega (arith, keeps.ranked from n by-above here, ap keeps.depth e)

  some-names : 1 ≤ names_for n (slot files n)
  some-names = omega (arith, by-above, names_by-le files from n, keeps.named n)

  not-root : n ≢ 1
  not-root e =
      let none : names_for n (slot files n) ≡ 0 = ap (λ j. names_for j (slot files j)) e
      ∙ ap (names_for 1) keeps.root.here in
      omega (arith, none, some-names)

  module _ (node : Node) (here : slot files n ≡ Some node) (may : may_remove node ≡ true)
      (found : lookup files from at.name ≡ Some n) where
    abbrev gone : ℕ → Node
    gone r = Directory (suc r) (clear named.places k)

    keeps-less : (r : ℕ) → named.links ≡ r + cond (is_directory node) 1 0
        → Loses files (both files n (fewer_links node) from (gone r)) at
    keeps-less r links =
        let drops = can-drop files n node not-root (subst (KeepsLive files n) here (keeps.nodes n))
        (subst (λ o. 1 ≤ names_for n o) here some-names) may in
        let again = relinked node _ in
        keeps-lost keeps
        (record {
          within = slot-within files n node here;
          apart = apart-from;
          other = not-root;
          quiet = λ m. again.names m ∙ ap (λ o. names_by o m) (sym here);
          kind = λ _. again.kind ∙ sym (directory-is files n node here);
          same = λ _. again.stays ∙ ap (option_map shape) (sym here);
          size = again.size (subst KeepsSize here (keeps.sizes n));
        })
        named.here r _ (subst (λ c. 16 * c ≤ longest) (sym (length-set named.places k None))
        (subst KeepsSize named.here (keeps.sizes from))) loses
        at (links ∙ ap (λ b. r + cond b 1 0) (sym again.kind))
        (drops.shrinks ∙ ap (names_for n) (sym here)) (drops.live _) found

    -- ---- in the order of the definitions

    dropped-is : change_node (erase files from k) n fewer_links
        ≡ both files n (fewer_links node) from (gone named.links)
    unfolding erase
    dropped-is =
        ap (λ fs. change_node fs n fewer_links) (change-is files from _ _ named.here)
        ∙ change-is _ n _ node (get_or-set_other files from n _ None apart-from ∙ here)
        ∙ set_comm files from n _ _ (λ e. apart-from (sym e))

    -- the directory above had a link for it
    some-links : is_directory node ≡ true → 1 ≤ named.links
    some-links h = omega (
      arith,
      counted-one (directory-is files n node here ∙ h),
      live-from.counted,
      folders-more loses files,
    )

    parent-is : is_directory node ≡ true
        → change_node (both files n (fewer_links node) from (gone named.links)) from fewer_links
        ≡ both files n (fewer_links node) from (gone (named.links - 1))
    parent-is h =
        let one : suc named.links - 1 ≡ suc (named.links - 1) = omega (arith, some-links h) in
        let less = put files n _ in
        let within = slot-within files from _ named.here in
        change-is (put less from (gone named.links)) from fewer_links (gone named.links)
        (get_or-set_same less from (Some (gone named.links)) None
        (omega (arith, within, length-set files n (Some (fewer_links node)))))
        ∙ set-set less from _ _
        ∙ ap (λ c. put less from (Directory c (clear named.places k))) one

    unlink-node : (b : Bool) → is_directory node ≡ b
        → Loses files (cond b (change_node (change_node (erase files from k) n fewer_links) from fewer_links)
        (change_node (erase files from k) n fewer_links)) at
    unlink-node true h =
        subst (λ fs. Loses files fs at) (sym (ap (λ fs. change_node fs from fewer_links) dropped-is ∙ parent-is h))
        (keeps-less _ (omega (arith, some-links h, counted-one h)))
    unlink-node false h = subst (λ fs. Loses files fs at) (sym dropped-is)
        (keeps-less _ (omega (arith, counted-none h)))

pub keeps-unlinked : {files : Files} → KeepsTree files → (at : Spot) (more : Files) → unlinked files at ≡ Some more
    → Loses files more at
keeps-unlinked {files} keeps at more h =
    let is = unlink-parts files at more h in
    subst (λ fs. Loses files fs at) (sym is.is)
    (unlink-node keeps is.named is.plain is.node is.here is.may is.found _ refl)
