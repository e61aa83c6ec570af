-- A name in a directory of what is made is found in the list of the names that are made so far.
use Rattle.imagemake.proofs.Common.{◌≡◌, ℕ, zero, suc, ◌≤◌, Bool, true, false, cond, List, [], ◌∷◌, ◌++◌, None, Option}
use Rattle.imagemake.proofs.Common.{Some, ap, refl, arith, bytes_eq, option_and_then, position, Files, Node, lookup}
use Rattle.imagemake.proofs.Common.{slot, Entry, Directory, ◌≢◌, ◌+◌, ◌-◌, length, inl, inr, ap₂, sym, ◌∙◌, nat_lt}
use Rattle.imagemake.proofs.Common.{option_map, slice_get, unwrap_or, ◌&&◌, ◌==◌, not, eqb, position_or_len, cases_lt}
use Rattle.imagemake.proofs.Common.{false≢true, false_from_ne_true, or_parts, length_push, bytes_eq-Decides, dot}
use Rattle.imagemake.proofs.Common.{dot_dot, is_directory, KeepsRules, is_directory_at, is_name, added, bare_files}
use Rattle.imagemake.proofs.Common.{node_for, CanAdd, Folder, IsListed, MadeName, found, is_folder, made_name}
use Rattle.imagemake.proofs.Common.{stands_at, position_or_len_push, prefix_len-le-length, Thing, eq-eqb, ne_eqb}
use Rattle.imagemake.proofs.Common.{slice_get_read, ◌<◌, get_or, drop, LeadsTo, Result, subst, drop_all, FileTree}
use Rattle.imagemake.proofs.Common.{ManifestEntry, Wrong, with_entries, with_manifest_entry, AddsEntry, IsGoing}
use Rattle.imagemake.proofs.Common.{MakesEntries, made_by, IsBegun, Refuses, entry_of, meaning, MakeFault, NoMemory}
use Rattle.imagemake.proofs.Common.{Err, if_room, IsSpot, Ok, HasFiles, KeepsNode, PackedAt, IsMade, make_fault}
use Rattle.imagemake.proofs.Common.{StoreFault, below-slot, lt-leb, IsWhole, Stores, cases_Bool, nat_tests}
use Rattle.imagerules.proofs.Paths.{first_named as first, first_named-is as first-position, IsGiven-name}
use Rattle.std.proofs.Math.Seq.{get_or-append_seam}
use Rattle.imagemake.proofs.Pathing.{is_folder-high, is_folder-low}
use Rattle.imagemake.proofs.Putting.{bare-each, IsBegun-bare}
use Rattle.imagemake.proofs.MadeEntry.{apart, each-more, entry, links-with, links_with, places_more, directory-kept}
use Rattle.imagemake.proofs.MadeEntry.{few-directories, directory-at, IsBegun-more}
use Rattle.imagemake.proofs.MadePaths.{entry-spot, last-good, spot-reaches}
use Rattle.imagemake.specs.declared.manifest.Entry.{Entry as Item}
use Rattle.imagemake.specs.declared.store.StoreFault.TheVariants.{Blocks, Device}
use Rattle.std.proofs.lemmas.List.{drop_more}
use Rattle.std.specs.Option.{option_or}
use Rattle.unixmodel.specs.Files.{entry_number, live_places, places_at}
use Rattle.unixmodel.specs.Manifest.{and_then}

-- ---- which number a name has in a directory, by the first entry of the name

-- the number of a name in a slot's node
abbrev pub finds : List ℕ → Option Node → Option ℕ
finds name o = option_and_then (λ places. entry_number (first name places)) (live_places o)

pub lookup-finds : (files : Files) (d : ℕ) (name : List ℕ) → lookup files d name ≡ finds name (slot files d)
unfolding lookup
lookup-finds files d name =
    λ j. option_and_then (λ places. entry_number (first-position name places j)) (places_at files d)

pub finds-live : (links : ℕ) (places : List (Option Entry)) (name : List ℕ) → 1 ≤ links
    → finds name (Some (Directory links places)) ≡ entry_number (first name places)
finds-live zero places name h = absurd (omega arith)
finds-live (suc links) places name h = refl

-- with an entry more at the end
pub number-push : (name : List ℕ) (os : List (Option Entry)) (e : Entry)
    → entry_number (first name (os ++ Some e ∷ []))
    ≡ option_or (entry_number (first name os)) (cond (bytes_eq e.name name) (Some e.number) None)
number-push name [] e = elim (cases_Bool (bytes_eq e.name name)) [ inl t ↦ rw t refl | inr f ↦ rw f refl ]
number-push name (None ∷ os) e = number-push name os e
number-push name (Some f ∷ os) e =
    elim (cases_Bool (bytes_eq f.name name)) [ inl t ↦ rw t refl | inr n ↦ rw n (number-push name os e) ]

push_step : (n k m : ℕ) (b : Bool) → n ≤ k → m ≡ cond (eqb n k) (k + cond b 0 1) n
    → cond (nat_lt m (k + 1)) (Some m) None ≡ option_or (cond (nat_lt n k) (Some n) None) (cond b (Some k) None)
push_step n k m b h e = let c = cases_Bool b in grind (arith, nat_tests)

position-push : {X : Type 0} (p : X → Bool) (xs : List X) (x : X)
    → position p (xs ++ x ∷ []) ≡ option_or (position p xs) (cond (p x) (Some (length xs)) None)
position-push p xs x =
    ap (λ k. cond (nat_lt (position_or_len p (xs ++ x ∷ [])) k) (Some (position_or_len p (xs ++ x ∷ []))) None)
    (length_push xs x)
    ∙ push_step _ _ _ _ (prefix_len-le-length (λ y. not (p y)) xs) (position_or_len_push p xs x)

slice_get-other : {X : Type 0} (xs : List X) (x : X) (k : ℕ) → k ≢ length xs
    → slice_get (xs ++ x ∷ []) k ≡ slice_get xs k
slice_get-other [] x zero h = absurd (h refl)
slice_get-other [] x (suc k) h = refl
slice_get-other (y ∷ ys) x zero h = refl
slice_get-other (y ∷ ys) x (suc k) h = slice_get-other ys x k (λ e. h (ap suc e))

-- ---- the list with an item more

module _ (made : List MadeName) (x : MadeName) where
  pub found-push : (k : ℕ) (w : List ℕ)
      → found (made ++ x ∷ []) k w ≡ option_or (found made k w) (cond (stands_at k w x) (Some (length made + 2)) None)
  unfolding found
  found-push k w = ap (option_map (λ j. j + 2)) (position-push _ made x) ∙ go _ _ where
    go : (o : Option ℕ) (b : Bool)
        → option_map (λ j. j + 2) (option_or o (cond b (Some (length made)) None))
        ≡ option_or (option_map (λ j. j + 2) o) (cond b (Some (length made + 2)) None)
    go None true = refl
    go None false = refl
    go (Some j) b = refl

  folder-new : is_folder (made ++ x ∷ []) (length made + 2) ≡ x.folder
  folder-new =
      let at : length made + 2 - 2 ≡ length made = omega arith in
      is_folder-high _ _ (omega arith)
      ∙ rw (
        at,
        slice_get_read (made ++ x ∷ []) _ (length made) x refl (omega (arith, length_push made x))
            (sym (get_or-append_seam made x [] x)),
      ) refl

  folder-other : (m : ℕ) → m ≢ length made + 2 → is_folder (made ++ x ∷ []) m ≡ is_folder made m
  folder-other m s = elim (cases_lt m 2) [
    | inl l ↦ is_folder-low _ m l ∙ sym (is_folder-low made m l)
    | inr l ↦ is_folder-high _ m l
        ∙ ap (λ o. unwrap_or (option_map (λ (y : MadeName). y.folder) o) false)
        (slice_get-other made x _ (λ e. s (omega arith))) ∙ sym (is_folder-high made m l)
  ]

-- ---- a name that is neither "." nor ".."

other_bytes : (xs ys : List ℕ) → bytes_eq ys xs ≡ false → bytes_eq xs ys ≡ false
other_bytes xs ys h = false_from_ne_true _
    (λ t. false≢true (sym h ∙ (bytes_eq-Decides ys xs).1 (sym ((bytes_eq-Decides xs ys).0 t))))

-- isn't in what a thing makes
nothing-found : (n d : ℕ) (thing : Thing) (w : List ℕ) → is_name w ≡ true → finds w (Some (node_for n d thing)) ≡ None
nothing-found n d Folder w good =
    let dots = or_parts (bytes_eq w dot) (bytes_eq w dot_dot) (IsGiven-name w good).no_dots in
    ap₂ (λ s t. entry_number
    (cond s (Some (record { name = dot; number = n }))
    (cond t (Some (record { name = dot_dot; number = d })) None))) (other_bytes dot w dots.0)
    (other_bytes dot_dot w dots.1)
nothing-found n d thing w good = refl

option_or-none : {X : Type 0} (o : Option X) → option_or o None ≡ o
option_or-none None = refl
option_or-none (Some x) = refl

module _ {files : Files} (rules : KeepsRules files) {d : ℕ} {name : List ℕ} {n : ℕ} (thing : Thing)
    (can : CanAdd files d name n) where
  -- each name leads where it led, and the new one to its number
  lookup-more : (w : List ℕ) → is_name w ≡ true → (k : ℕ)
      → lookup (added files d name n thing) k w
      ≡ option_or (lookup files k w) (cond ((d == k) && bytes_eq name w) (Some n) None)
  lookup-more w good k =
      let some : 1 ≤ can.links = let c = (directory-kept rules can).counted in omega arith in
      lookup-finds (added files d name n thing) k w
      ∙ each-more thing can (λ k o. finds w o
      ≡ option_or (lookup files k w) (cond ((d == k) && bytes_eq name w) (Some n) None))
      (nothing-found n d thing w good
      ∙ sym (rw (lookup-finds files n w, can.number.unused, ne_eqb d n (apart thing can)) refl))
      (finds-live (links_with thing can.links) (places_more thing can) w
      (omega (arith, links-with thing n d can.links)) ∙ number-push w can.places (entry thing can)
      ∙ sym (rw (lookup-finds files d w, can.directory, finds-live can.links can.places w some, eq-eqb d d refl) refl))
      (λ m s t. rw (lookup-finds files m w, ne_eqb d m (λ e. t (sym e))) (sym (option_or-none _)))
      k

  pub IsListed-more : (made : List MadeName) → length made + 2 ≡ n → IsListed files made → {folder : Bool}
      → folder ≡ is_directory (node_for n d thing)
      → IsListed (added files d name n thing) (made ++ made_name d name folder ∷ [])
  IsListed-more made long listed {folder} kind =
      let x = made_name d name folder in
      record {
        names = λ k w good. lookup-more w good k
            ∙ ap₂ (λ o i. option_or o (cond ((d == k) && bytes_eq name w) (Some i) None)) (listed.names k w good)
            (sym long) ∙ sym (found-push made x k w);
        folders = each-more thing can
            (λ m o. unwrap_or (option_map is_directory o) false ≡ is_folder (made ++ x ∷ []) m)
            (sym kind ∙ sym (folder-new made x) ∙ ap (is_folder (made ++ x ∷ [])) long)
            (ap (λ o. unwrap_or (option_map is_directory o) false) (sym can.directory) ∙ listed.folders d
            ∙ sym (folder-other made x d (λ e. apart thing can (e ∙ long))))
            (λ m s t. listed.folders m ∙ sym (folder-other made x m (λ e. s (e ∙ long))));
      }

-- ---- the root alone

pub IsListed-bare : (inodes : ℕ) → 2 ≤ inodes → IsListed (bare_files inodes) []
unfolding found is_folder
IsListed-bare inodes some = record { names = no_name; folders = root_alone }
  where
    no_name : (d : ℕ) (w : List ℕ) → is_name w ≡ true → lookup (bare_files inodes) d w ≡ found [] d w
    no_name d w good = lookup-finds _ d w
        ∙ bare-each inodes some (λ _ o. finds w o ≡ None) (nothing-found 1 1 Folder w good) (λ _ _. refl) d

    root_alone : (n : ℕ) → is_directory_at (bare_files inodes) n ≡ is_folder [] n
    root_alone = bare-each inodes some (λ n o. unwrap_or (option_map is_directory o) false ≡ is_folder [] n) refl
        (λ n s. sym (other n (nat_lt n 2) (ne_eqb n 1 s)))
      where
        other : (n : ℕ) (b : Bool) → (n == 1) ≡ false → cond b (n == 1) false ≡ false
        other n true e = e
        other n false e = refl

pub leads-push : {made : List MadeName} {above : List ℕ} {d : ℕ} → LeadsTo made above d → (x : MadeName)
    → LeadsTo (made ++ x ∷ []) above d
leads-push {made} leads x =
    record {
      below = λ more kept bs. leads.below more
          (λ d w n told. kept d w n
          (found-push made x d w ∙ ap (λ o. option_or o (cond (stands_at d w x) (Some (length made + 2)) None)) told))
          bs;
    }

-- ---- the entries of a manifest, one after the other

-- what is wrong with one is wrong with all
pub Refuses-step : (r : Result Files Wrong) (rest : Files → Result Files Wrong) (fault : MakeFault) → Refuses r fault
    → Refuses (and_then r rest) fault
Refuses-step r rest NoMemory h = tt
Refuses-step r rest fault h = ap (λ x. and_then x rest) h

-- the root alone
pub going-root : {t : FileTree} (made : List MadeName) (entries : List ManifestEntry) → t.failed ≡ false
    → t.files ≡ bare_files (length t.files) → 16 ≤ length t.files → 1 ≤ t.block_limit → made ≡ []
    → IsGoing t t made entries entries
going-root {t} made entries up root some block none = subst (λ m. IsGoing t t m entries entries) (sym none) (record {
  made_so_far = record {
    up = up;
    begun = subst (λ (fs : Files). IsBegun t.block_limit (length t.files) fs 2) (sym root)
        (IsBegun-bare (length t.files) (omega arith) t.block_limit block);
    listed = subst (λ (fs : Files). IsListed fs []) (sym root) (IsListed-bare (length t.files) (omega arith));
  };
  rest = refl;
  still = ap (λ (fs : Files). with_entries t.block_limit (length t.files) fs 2 entries) (sym root);
})

-- what the entry that comes next makes
abbrev adding : FileTree → List MadeName → ManifestEntry → Result Files Wrong
adding t made = with_manifest_entry t.block_limit (length t.files) t.files (length made + 2)

module _ {t now : FileTree} {made : List MadeName} {entries : List ManifestEntry} (es : List Item) (i : ℕ) (e : Item)
    (h : i < length es) (going : IsGoing t now made entries (meaning (drop i es))) where
  abbrev one : Result Files Wrong
  one = adding now made (entry_of (get_or es i e))

  abbrev others : Files → Result Files Wrong
  others more = with_entries now.block_limit (length now.files) more (length made + 2 + 1) (meaning (drop (i + 1) es))

  rest_is : made_by t entries ≡ and_then one others
  unfolding with_entries
  rest_is = going.still ∙ ap
      (λ xs. with_entries now.block_limit (length now.files) now.files (length made + 2) (meaning xs))
      (drop_more es i e h)

  pub going-more : {new : FileTree} {names : List MadeName} → AddsEntry now new made names (entry_of (get_or es i e))
      → IsGoing t new names entries (meaning (drop (i + 1) es))
  going-more {new} {names} adds =
      let next : length made + 2 + 1 ≡ length names + 2 = omega (arith, adds.longer) in
      let limit : now.block_limit ≡ new.block_limit = sym (ap (λ (t : FileTree). t.block_limit) adds.rest) in
      record {
        made_so_far = adds.made_more;
        rest = adds.rest ∙ ap (λ (t : FileTree). record t { files = new.files; failures = new.failures }) going.rest;
        still = rest_is ∙ ap (λ r. and_then r others) adds.is
            ∙ (λ j. with_entries (limit j) (sym adds.long j) new.files (next j) (meaning (drop (i + 1) es)));
      }

  pub refused-going : (fault : MakeFault) → Refuses one fault → Refuses (made_by t entries) fault
  refused-going fault h = subst (λ r. Refuses r fault) (sym rest_is) (Refuses-step one others fault h)

pub makes-entries : {t now : FileTree} {made : List MadeName} {entries : List ManifestEntry} (es : List Item) (i : ℕ)
    → length es ≤ i → IsGoing t now made entries (meaning (drop i es)) → MakesEntries t now entries
unfolding with_entries
makes-entries {now = now} {made = made} es i h going = record {
  is = going.still ∙ ap (λ xs. with_entries now.block_limit (length now.files) now.files (length made + 2)
      (meaning xs)) (drop_all i es h);
  rest = going.rest;
  rules = going.made_so_far.begun.rules;
}

-- ---- an entry is put among the files

few-links : (files : Files) (d links : ℕ) (places : List (Option Entry)) → KeepsRules files → length files ≤ 8192
    → slot files d ≡ Some (Directory links places) → links < 65535
few-links files d links places rules most at =
    let kept : KeepsNode files d (Some (Directory links places)) = subst (KeepsNode files d) at (rules.nodes d) in
    omega (arith, kept.counted, few-directories rules d)

module _ {t : FileTree} {made : List MadeName} (whole : IsWhole t) (is : IsMade t made) where
  pub made-inodes : length made + 2 ≤ length t.files
  made-inodes =
      let last : length made + 1 < length t.files =
      below-slot t.files _ (is.begun.used _ (omega arith) (omega arith)) in
      omega arith

  pub made-few : length made < 65536
  made-few = let most = whole.most in let k = made-inodes in omega arith

  module _ {path : List ℕ} {d : ℕ} {name : List ℕ} (spot : IsSpot made path d name)
      (room : length made + 2 < length t.files) where
    can-add : CanAdd t.files d name (length made + 2)
    can-add =
        let above = directory-at _ (is.listed.folders d ∙ spot.folder) in
        record {
          links = above.0;
          places = above.1;
          directory = above.2;
          few = few-links t.files d above.0 above.1 is.begun.rules whole.most above.2;
          packed = subst PackedAt above.2 (is.begun.packed d);
          named = last-good (spot-reaches spot);
          number = record { low = omega arith; high = room; unused = is.begun.free (length made + 2) (omega arith) };
        }

    -- a number that is equal to this
    module _ {k : ℕ} (next : k ≡ length made + 2) where
      pub CanAdd-next : CanAdd t.files d name k
      CanAdd-next = subst (CanAdd t.files d name) (sym next) can-add

      -- the files after it was stored, or wasn't
      module _ {new : FileTree} (thing : Thing) {r : Result (Unit {0}) StoreFault}
          (told : Stores t new d name k thing r) {given : List ℕ} (given_is : path ≡ given) where
        stored : Stores t new d name (length made + 2) thing r
        stored = subst (λ n. Stores t new d name n thing r) next told

        abbrev item : ManifestEntry
        item = record { path = given; thing = thing }

        passed : adding t made item
            ≡ if_room t.block_limit d (length made + 2) (added t.files d name (length made + 2) thing)
        passed =
            ap (λ p. adding t made (record { path = p; thing = thing })) (sym given_is)
            ∙ entry-spot spot t.block_limit (length t.files) t.files (length made + 2) thing is.listed
            ∙ rw (lt-leb (length t.files) (length made + 2) room) refl

        pub AddsEntry-stored : r ≡ Ok tt → {folder : Bool} {now : List MadeName}
            → now ≡ made ++ made_name d name folder ∷ [] → folder ≡ is_directory (node_for (length made + 2) d thing)
            → AddsEntry t new made now item
        AddsEntry-stored done {folder} {now} pushed is_folder =
            let one = made_name d name folder in
            let n = length made + 2 in
            let more = added t.files d name n thing in
            let kept : Stores t new d name n thing (Ok tt) = subst (Stores t new d name n thing) done stored in
            let becomes : HasFiles t new more = kept.stored.0 in
            let files : new.files ≡ more = ap (λ (t : FileTree). t.files) becomes in
            let next : n + 1 ≡ length (made ++ one ∷ []) + 2 = omega (arith, length_push made one) in
            let begun = IsBegun-more is.begun thing can-add
            (is.listed.names d name (last-good (spot-reaches spot)) ∙ spot.absent) kept.stored.1 in
            record {
              is = passed ∙ kept.stored.1 ∙ ap Ok (sym files);
              rest = becomes ∙ ap (λ (fs : Files). record t { files = fs; failures = new.failures }) (sym files);
              long = ap length files ∙ begun.count;
              longer = ap length pushed ∙ length_push made one;
              made_more = subst (IsMade new) (sym pushed)
                  (subst (λ (x : FileTree). IsMade x (made ++ one ∷ [])) (sym becomes) (record {
                    up = is.up;
                    begun = subst (λ c. IsBegun t.block_limit c more (length (made ++ one ∷ []) + 2)) (sym begun.count)
                        (subst (IsBegun t.block_limit (length t.files) more) next begun);
                    listed = IsListed-more is.begun.rules thing can-add made refl is.listed is_folder;
                  }));
            }

        pub refused-stored : (fault : StoreFault) → r ≡ Err fault → Refuses (adding t made item) (make_fault fault)
        refused-stored Blocks e = passed ∙ (subst (Stores t new d name (length made + 2) thing) e stored).stored
        refused-stored Device e = tt
