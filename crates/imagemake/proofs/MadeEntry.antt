-- Files with one more entry: what each number holds, and that they keep the rules.
use Rattle.imagemake.proofs.Common.{at_or, get_or-set_other, get_or-set_same, length-set, ◌≡◌, ◌≢◌, ℕ, ◌+◌, true, List}
use Rattle.imagemake.proofs.Common.{[], ◌∷◌, ◌++◌, length, Option, Some, set, ap, sym, refl, ◌∙◌, subst, option_map}
use Rattle.imagemake.proofs.Common.{unwrap_or, cond, set_comm, arith, false≢true, none-some, slot-within, Files, Node}
use Rattle.imagemake.proofs.Common.{is_directory, put, slot, added, appended, linked, node_for, CanAdd, Folder, Entry}
use Rattle.imagemake.proofs.Common.{Directory, Thing, false, None, suc, ◌*◌, ◌<◌, ◌≤◌, inl, inr, cases_eq, length_push}
use Rattle.imagemake.proofs.Common.{set-set, IsSome, links_of, longest, lookup, KeepsNode, KeepsRules, KeepsSize}
use Rattle.imagemake.proofs.Common.{subdirectories, HasDirectory, IsDirectory, HasLinked, more_links, new_directory}
use Rattle.imagemake.proofs.Common.{Spot, most_places, change-is, entered-is, enter, free_number, IsGap, number-lowest}
use Rattle.imagemake.proofs.Common.{enter-room, none-not, Bool, Ok, Err, Result, nat_le, ◌&&◌, and_parts, leb-true}
use Rattle.imagemake.proofs.Common.{size_of, Wrong, if_room, is_short, PackedAt, IsBegun, blocks_of, Blocks, ◌==◌}
use Rattle.imagemake.proofs.Common.{filter, get_or, not, cases_lt, length-filter, entries_of, is_directory_at}
use Rattle.imagemake.proofs.Common.{below-slot, filter_passes, names_by, names_by-le, is_some, eq-eqb}
use Rattle.unixmodel.specs.NameCalls.{Made, make_at}
use Rattle.name_rules.specs.Changes.{Changed}
use Rattle.name_rules.proofs.Adding.{makes-directory, makes-file}
use Rattle.imagemake.proofs.FromRules.{KeepsTree-rules, linked-rules, KeepsRules-live, twice, directory-once}
use Rattle.imagemake.proofs.Filling.{placed-end, room-end-at, packed-more}
use Rattle.imagemake.proofs.Putting.{packed-node}
use Rattle.std.proofs.lemmas.List.Filters.{sum_by-filter_both}
use Rattle.indexmap.proofs.IndexTableLemmas.Probe.{pigeonhole}

-- the links of a directory with one more entry of this kind
abbrev pub links_with : Thing → ℕ → ℕ
links_with Folder links = links + 1
links_with thing links = links

pub linked-directory : (thing : Thing) (links : ℕ) (places : List (Option Entry))
    → linked thing (Directory links places) ≡ Directory (links_with thing links) places
linked-directory Folder links places = refl
linked-directory thing links places = refl

pub links-with : (thing : Thing) (n d links : ℕ)
    → links_with thing links ≡ links + cond (is_directory (node_for n d thing)) 1 0
links-with Folder n d links = refl
links-with thing n d links = omega arith

pub directory-at : (o : Option Node) → unwrap_or (option_map is_directory o) false ≡ true
    → (links : ℕ) × (places : List (Option Entry)) × (o ≡ Some (Directory links places))
directory-at (Some (Directory links places)) h = (links, places, refl)
directory-at o h = absurd (false≢true h)

module _ {files : Files} {d : ℕ} {name : List ℕ} {n : ℕ} (thing : Thing) (can : CanAdd files d name n) where
  abbrev pub entry : Entry
  entry = record { name = name; number = n }

  -- the entries of the directory, its new name among them
  abbrev pub places_more : List (Option Entry)
  places_more = can.places ++ Some entry ∷ []

  abbrev pub named : Node
  named = Directory (links_with thing can.links) places_more

  pub apart : d ≢ n
  apart e = none-some _ (sym can.number.unused ∙ ap (slot files) (sym e) ∙ can.directory)

  -- the node first, and then its name
  abbrev pub both : Files
  both = put (put files n (node_for n d thing)) d named

  pub added-is : added files d name n thing ≡ both
  unfolding added
  added-is =
      ap (λ o. put (set files d (option_map (λ node. linked thing (appended entry node)) o)) n (node_for n d thing))
      can.directory
      ∙ ap (λ node. put (put files d node) n (node_for n d thing)) (linked-directory thing can.links places_more)
      ∙ set_comm files d n (Some named) (Some (node_for n d thing)) apart

  pub here : slot (added files d name n thing) n ≡ Some (node_for n d thing)
  here = ap (λ fs. slot fs n) added-is
      ∙ get_or-set_other (put files n (node_for n d thing)) d n (Some named) None (λ e. apart (sym e))
      ∙ get_or-set_same files n (Some (node_for n d thing)) None can.number.high

  pub above : slot (added files d name n thing) d ≡ Some named
  above =
      ap (λ fs. slot fs d) added-is
      ∙ get_or-set_same _ d _ None
      (omega (
        arith,
        slot-within files d (Directory can.links can.places) can.directory,
        length-set files n (Some (node_for n d thing)),
      ))

  pub long : length (added files d name n thing) ≡ length files
  long = ap length added-is ∙ length-set _ d _ ∙ length-set files n _

  -- what holds of the two numbers that change and of each other holds of all
  pub each-more : (P : ℕ → Option Node → Type 0) → P n (Some (node_for n d thing)) → P d (Some named)
      → ((m : ℕ) → m ≢ n → m ≢ d → P m (slot files m)) → (m : ℕ) → P m (slot (added files d name n thing) m)
  each-more P new grown rest m =
      at_or (λ k. P k (slot (added files d name n thing) k)) n m (subst (P n) (sym here) new)
      (λ s. at_or (λ k. P k (slot (added files d name n thing) k)) d m (subst (P d) (sym above) grown) (λ t.
      subst (P m)
      (sym (ap (λ fs. slot fs m) added-is ∙ get_or-set_other (put files n (node_for n d thing)) d m (Some named) None t
      ∙ get_or-set_other files n m (Some (node_for n d thing)) None s)) (rest m s t)))

-- ---- files with an entry more keep the rules of files at rest: a call on names makes them, which keeps those of a
-- running machine

-- where each node has a link, it has one still
linked-still : {files more : Files} → HasLinked files → Changed files more → HasLinked more
linked-still linked changed m x at = elim (cases_eq (links_of x) 0) [
  | inl none ↦ let was = changed.idle m x at none in let some =
      linked m was.was was.here in absurd (omega (arith, was.none))
  | inr s ↦ omega arith
]

module _ {files : Files} (rules : KeepsRules files) {d : ℕ} {name : List ℕ} {n : ℕ} (can : CanAdd files d name n) where
  pub directory-kept : IsDirectory files d can.links can.places
  directory-kept = subst (KeepsNode files d) can.directory (rules.nodes d)

  abbrev links : ℕ
  links = subdirectories files d

  links-are : suc links ≡ can.links
  links-are = omega (arith, directory-kept.counted)

  before : slot files d ≡ Some (Directory (suc links) can.places)
  before = can.directory ∙ ap (λ k. Some (Directory k can.places)) (sym links-are)

  abbrev at : Spot
  at = record { directory = d; name = name }

  module _ (used : (m : ℕ) → 1 ≤ m → m < n → IsSome (slot files m)) (absent : lookup files d name ≡ None) where
    gap : IsGap files at
    gap = record { links = links; places = can.places; here = before; name = can.named; absent = absent }

    module _ (thing : Thing) (short : KeepsSize (slot (added files d name n thing) n))
        (short_above : KeepsSize (slot (added files d name n thing) d)) where
      abbrev node : Node
      node = node_for n d thing

      -- with a name at its end
      abbrev longer : ℕ → Files
      longer k = put (put files n node) d (Directory k (places_more thing can))

      few : length can.places < most_places
      few = let size : 16 * length (places_more thing can) ≤ longest =
          subst KeepsSize (above thing can) short_above
          in omega (arith, length_push can.places (Some (entry thing can)))

      enters : enter (put files n node) at n ≡ Some (longer (suc links))
      enters =
          let held : HasDirectory files d =
          record {
            links = can.links;
            places = can.places;
            here = can.directory;
            few = can.few;
            packed = can.packed;
          } in
          let stays = get_or-set_other files n d (Some node) None (apart thing can) ∙ before in
          enter-room _ at n links _ stays _ (sym (room-end-at held refl few))
          ∙ ap Some (entered-is _ d _ _ stays _ _)
          ∙ ap (λ ps. Some (put (put files n node) d (Directory (suc links) ps))) (placed-end _ _)

      abbrev made : Made
      made = record { files = longer (suc links); number = n }

      -- its number is the lowest that is free
      makes : (nodes : ℕ → Node) → nodes n ≡ node → make_at files at nodes ≡ Some made
      unfolding make_at
      makes nodes is =
          let free : free_number files ≡ Some n =
          number-lowest files n can.number.low can.number.high (λ m l u. none-not (slot files m) (used m l u))
          can.number.unused in
          rw (free, is, enters) refl

    changed : (thing : Thing) → KeepsSize (slot (added files d name n thing) n)
        → KeepsSize (slot (added files d name n thing) d) → Changed files (added files d name n thing)
    changed Folder short short_above =
        let was = Directory (suc links) (places_more Folder can) in
        let one = put files n (node_for n d Folder) in
        let within : d < length one =
        omega (
          arith,
          slot-within files d (Directory can.links can.places) can.directory,
          length-set files n (Some (node_for n d Folder)),
        ) in
        subst (Changed files) (change-is (put one d was) d more_links was
        (get_or-set_same one d (Some was) None within) ∙ set-set one d (Some was) (Some (more_links was))
        ∙ ap (λ k. put one d (Directory (k + 1) (places_more Folder can))) links-are ∙ sym (added-is Folder can))
        (makes-directory (KeepsTree-rules rules)
        at gap (made Folder short short_above) (makes Folder short short_above (new_directory d) refl))
    changed thing short short_above =
        subst (Changed files) (ap (λ k. put (put files n (node_for n d thing)) d (Directory k (places_more thing can)))
        links-are ∙ sym (added-is thing can))
        (makes-file (KeepsTree-rules rules)
        at gap (λ m. node_for m d thing)
        (λ m. record { kind = refl; links = refl; size = subst KeepsSize (here thing can) short })
        (made thing short short_above)
        (makes thing short short_above (λ m. node_for m d thing) refl))

    pub KeepsRules-more : (thing : Thing) → KeepsSize (slot (added files d name n thing) n)
        → KeepsSize (slot (added files d name n thing) d) → KeepsRules (added files d name n thing)
    KeepsRules-more thing short short_above = let now =
        changed thing short short_above in KeepsRules-live now.tree (linked-still (linked-rules rules) now)

-- ---- what an entry of a manifest makes keeps the rules of files

passes : (t : Bool) (files : Files) → ◌≡◌ {A = Result Files Wrong} (cond t (Ok files) (Err Blocks)) (Ok files)
    → t ≡ true
passes true files h = refl
passes false files h = cc

keeps_size : (o : Option Node) → unwrap_or (option_map (λ (node : Node). nat_le (size_of node) longest) o) true ≡ true
    → KeepsSize o
keeps_size None h = tt
keeps_size (Some node) h = leb-true _ longest h

pub IsBegun-more : {blocks inodes : ℕ} {files : Files} {n : ℕ} → IsBegun blocks inodes files n
    → {d : ℕ} {name : List ℕ} (thing : Thing) (can : CanAdd files d name n) → lookup files d name ≡ None
    → if_room blocks d n (added files d name n thing) ≡ Ok (added files d name n thing)
    → IsBegun blocks inodes (added files d name n thing) (n + 1)
IsBegun-more {blocks} {inodes} {files} {n} b {d} {name} thing can absent fits =
    let more = added files d name n thing in
    let next : 2 ≤ n = b.next in
    let s = and_parts (is_short more n && is_short more d) (nat_le (blocks_of more) blocks)
    (passes (is_short more n && is_short more d && nat_le (blocks_of more) blocks) more fits) in
    let t = and_parts (is_short more n) (is_short more d) s.0 in
    let kept_free = each-more thing can (λ m o. m ≢ n → slot files m ≡ None → o ≡ None) (λ s _. absurd (s refl))
    (λ _ free. absurd (none-some (Directory can.links can.places) (sym free ∙ can.directory)))
    (λ m s t _ free. free) in
    record {
      rules = KeepsRules-more b.rules can b.used absent thing (keeps_size (slot more n) t.0)
          (keeps_size (slot more d) t.1);
      count = long thing can ∙ b.count;
      zero = kept_free 0 (λ z. absurd (omega arith)) b.zero;
      used = each-more thing can (λ m o. 1 ≤ m → m < n + 1 → IsSome o) (λ l u. refl) (λ l u. refl)
          (λ m s t l u. b.used m l (omega arith));
      free = λ m l. kept_free m (λ z. absurd (omega arith)) (b.free m (omega arith));
      next = omega arith;
      room = leb-true (blocks_of more) blocks s.1;
      packed = each-more thing can (λ m o. PackedAt o) (packed-node n d thing)
          (packed-more can.places (entry thing can) can.packed) (λ m s t. b.packed m);
    }

-- ---- a directory has at most as many directories in it as there are nodes: each of them has one name

most-one : (b : Bool) → cond b 0 1 ≤ 1
most-one true = omega arith
most-one false = omega arith

module _ {files : Files} (rules : KeepsRules files) (d : ℕ) where
  abbrev entries : List Entry
  entries = entries_of (slot files d)

  abbrev leads_in : Entry → Bool
  leads_in e = is_directory_at files e.number

  -- the numbers of the directories in it
  abbrev number : ℕ → ℕ
  number k = (get_or (filter leads_in entries) k (record { name = []; number = 0 })).number

  directory : (k : ℕ) → k < length (filter leads_in entries) → is_directory_at files (number k) ≡ true
  directory k l = filter_passes _ entries k (record { name = []; number = 0 }) l

  differ : (i j : ℕ) → i < j → j < length (filter leads_in entries) → number i ≡ number j → ⊥
  unfolding names_by
  differ i j l h same =
      let n = number i in
      let both = twice (λ (e : Entry). e.number == n) _ i j (record { name = []; number = 0 }) l h (eq-eqb n n refl)
      (eq-eqb _ n (sym same)) in
      let once = directory-once rules n (directory i (omega arith)) in
      omega (
        arith,
        names_by-le files d n,
        most-one (n == 1),
        sum_by-filter_both leads_in (λ e. not (leads_in e)) (λ e. refl) (λ (e : Entry). cond (e.number == n) 1 0)
            entries,
      )

  pub few-directories : subdirectories files d ≤ length files
  unfolding subdirectories
  few-directories = omega (
    arith,
    length-filter leads_in entries,
    pigeonhole _ _ number
        (λ k l. let at = directory-at (slot files (number k)) (directory k l)
        in below-slot files (number k) (ap is_some at.2)) (λ i j l h same. elim (cases_lt i j) [
          | inl low ↦ absurd (differ i j low h same)
          | inr high ↦ elim (cases_lt j i) [ inl low ↦ absurd (differ j i low l (sym same)) | inr k ↦ omega arith ]
        ]),
  )
