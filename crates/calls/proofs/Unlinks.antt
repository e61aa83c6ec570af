-- unlink: one name less, and its node is given up where nothing keeps it any more.
use Rattle.calls.proofs.Common.{[], Acts, answer-here, answered, answered-here, Answers, answers, ap, arith, blocks_of}
use Rattle.calls.proofs.Common.{Bool, change_node, change_process, Directory, directory_at, Done, erase, false, File}
use Rattle.calls.proofs.Common.{Files, frames_of, free-here, has_failed, Here, if◌then◌else◌, is_by, is_directory}
use Rattle.calls.proofs.Common.{is_used, is_within, IsKernel, kept, kept-cong, Kernel, length-set, limited, links_of}
use Rattle.calls.proofs.Common.{List, loaded, lookup, me, nat_le, nat_lt, Node, None, none-some, open_limit, Option}
use Rattle.calls.proofs.Common.{option_and_then, option_map, Outcome, path_argument, process-here, quiet, reap, refl}
use Rattle.calls.proofs.Common.{Result, row_of, settle, slot, Some, Spot, spot_of, State, state_of, subst, sym}
use Rattle.calls.proofs.Common.{TreeFault, true, Unlink, unlink-parts, unlink_row, unlinked, used-is, with_answer}
use Rattle.calls.proofs.Common.{with_tree, within-state, without_nodes, without_opens, without_opens-same}
use Rattle.calls.proofs.Common.{without_pipes, ℕ, ◌&&◌, ◌*◌, ◌||◌, ◌∙◌, ◌≡◌, ◌≢◌, ◌≤◌}
use Rattle.tree.specs.Calls.{TakesName}
use Rattle.unixmodel.specs.NameCalls.{fewer_links, path_arg, with_files, without_name}
use Rattle.tree.proofs.Keeping.{Reaps}
use Rattle.unixmodel.specs.Files.{blocks_for, size_of, without_place}
use Rattle.kernel.proofs.Reaping.{away-loaded, opened-loaded, used-loaded}
use Rattle.kernel.proofs.FileChanges.{kept-is, reaps}
use Rattle.unixmodel.specs.Counts.{opens_of}
use Rattle.calls.proofs.Acts.{settle-reaped, settles}
use Rattle.unixmodel.specs.Process as unix
use Rattle.files.proofs.Whole.{Counts, all-set}
use Rattle.files.proofs.PipesLemmas.{without_pipes-same}
use Rattle.kernel.proofs.Leaving.{counts-joined}
use Rattle.tree.specs.Holding.{let_go}
use Rattle.tree.specs.Unlinks.{unlinked_in}
use Rattle.calls.proofs.Processes.{sum-altered}
use Rattle.calls.proofs.Names.{ActsNamed, given-then, home-is, named-acts, over-here, path-is, tree-state, with_made}

-- ---- unlink: one name less, and its node is given up where nothing keeps it any more

-- ---- the row

-- the files without the name, before a node is given up
abbrev nameless : Files → ℕ → List ℕ → Option Files
nameless files d path = option_and_then (unlinked files) (spot_of files d path)

unlink-row : (s : State) (i : ℕ) (p : unix.Process) (path : List ℕ) → path_arg p 0 ≡ Some path
    → unlink_row s i p ≡ with_made s (nameless s.files p.directory path)
unfolding unlink_row
unlink-row s i p path at =
    rw at (given-then (spot_of s.files p.directory path) (unlinked s.files) (λ files. answers (with_files s files) 0))

-- where the tree removes no name the row doesn't
nameless-none : (holds : List ℕ) (files : Files) (d : ℕ) (path : List ℕ) → unlinked_in holds files d path ≡ None
    → nameless files d path ≡ None
unfolding unlinked_in
nameless-none holds files d path none = go (spot_of files d path) none where
  taken : (at : Spot) → option_and_then (λ n. option_map (λ (less : Files). let_go holds less n) (unlinked files at))
      (lookup files at.directory at.name) ≡ None → (o : Option Files) → unlinked files at ≡ o → o ≡ None
  taken at h None e = refl
  taken at h (Some more) e = let u =
      unlink-parts files at more e in absurd (none-some (let_go holds more u.number) (sym h ∙ rw (u.found, e) refl))

  go : (o : Option Spot) → option_and_then
      (λ at. option_and_then (λ n. option_map (λ (less : Files). let_go holds less n) (unlinked files at))
      (lookup files at.directory at.name)) o ≡ None → option_and_then (unlinked files) o ≡ None
  go None h = refl
  go (Some at) h = taken at h (unlinked files at) refl

-- ---- what stays of files with one name less

-- they take as many blocks, and have no more nodes
record IsLess (files less : Files) : Type 0 where
  pub blocks : blocks_of less ≡ blocks_of files
  pub none : (m : ℕ) → slot files m ≡ None → slot less m ≡ None

less-then : {a b c : Files} → IsLess a b → IsLess b c → IsLess a c
less-then first second =
    record { blocks = second.blocks ∙ first.blocks; none = λ m gone. second.none m (first.none m gone) }

fewer-size : (x : Node) → size_of (fewer_links x) ≡ size_of x
fewer-size (File links bytes) = refl
fewer-size _ = refl

placeless-size : (k : ℕ) (x : Node) → size_of (without_place k x) ≡ size_of x
placeless-size k (Directory links places) = ap (λ n. 16 * n) (length-set places k None)
placeless-size k _ = refl

changed-less : (files : Files) (n : ℕ) (f : Node → Node) → ((x : Node) → size_of (f x) ≡ size_of x)
    → IsLess files (change_node files n f)
unfolding blocks_of
changed-less files n f sized =
    record {
      blocks = sum-altered (λ (x : Node). blocks_for (size_of x)) f (λ x. ap blocks_for (sized x)) files n;
      none = all-set (λ m o. slot files m ≡ None → o ≡ None) files n (option_map f (slot files n))
          (λ gone. ap (option_map f) gone) (λ m gone. gone);
    }

erased-less : (files : Files) (d k : ℕ) → IsLess files (erase files d k)
unfolding erase
erased-less files d k = changed-less files d (without_place k) (placeless-size k)

named-less : (files : Files) (d k n : ℕ) (node : Node) → IsLess files (without_name files d k n node)
named-less files d k n node = go (is_directory node) where
  less : IsLess files (change_node (erase files d k) n fewer_links)
  less = less-then (erased-less files d k) (changed-less (erase files d k) n fewer_links fewer-size)

  go : (b : Bool) → IsLess files
      (if b then change_node (change_node (erase files d k) n fewer_links) d fewer_links
      else change_node (erase files d k) n fewer_links)
  go true = less-then less (changed-less (change_node (erase files d k) n fewer_links) d fewer_links fewer-size)
  go false = less

unlinked-less : (files : Files) (at : Spot) (more : Files) → unlinked files at ≡ Some more → IsLess files more
unlinked-less files at more h = let u =
    unlink-parts files at more h
    in subst (IsLess files) (sym u.is) (named-less files at.directory u.place u.number u.node)

-- files that take as many blocks are within the limits as well
within-files : (s : State) (files : Files) → blocks_of files ≡ blocks_of s.files
    → is_within (with_files s files) ≡ is_within s
unfolding frames_of
within-files s files same =
    ap (λ n. nat_le (frames_of s) s.frame_limit && nat_le n s.block_limit && nat_le (opens_of s) open_limit) same

-- ---- the kernel with one name less

module _ {k : Kernel} {i : ℕ} (x : Here k i) (d : ℕ) (path : List ℕ) {to : Kernel} (rest : to ≡ with_tree k to.tree)
    (sound : IsKernel to) (made : unlinked_in k.tree.holds k.tree.files d path ≡ Some to.tree.files)
    (limit : to.tree.block_limit ≡ k.tree.block_limit) (holds : to.tree.holds ≡ k.tree.holds)
    (up : to.tree.failed ≡ false) (device : to.tree.identity ≡ k.tree.identity)
    (later : k.tree.failures ≤ to.tree.failures) where
  abbrev g : Reaps k.tree.holds k.tree.files d path to.tree.files
  g = reaps (x.sound.used x.up) to.tree d path made

  here-then : Here to i
  here-then = over-here x rest sound up

  -- ---- what the row makes, once it is settled

  abbrev last : Here (answered to 0) i
  last = answered-here here-then 0

  -- before nodes are given up
  abbrev full : State
  full = with_files (state_of (answered to 0)) g.less

  nodes-reaped : without_nodes full ≡ state_of (answered to 0)
  unfolding without_nodes
  nodes-reaped =
      let new = answered to 0 in
      let now = used-loaded new last.sound up in
      ap (λ (fs : Files). record full { files = fs })
      (kept-cong (λ n node. nat_lt 0 (links_of node) || is_used full n) (is_by to.tree.holds) 0 g.less (λ a j y e at.
      let same : j ≡ a = omega (arith, e) in
      let used = x.sound.used x.up in
      let some : j ≢ 0 = λ z. none-some y
      (sym ((unlinked-less k.tree.files g.at g.less g.made).none 0 used.zero) ∙ ap (slot g.less) (sym z ∙ same)
      ∙ at) in
      ap (λ b. nat_lt 0 (links_of y) || b)
      (used-is new.files (loaded new).places new.spaces.places (away-loaded new last.sound) full refl refl j some
      ∙ ap (nat_lt 0) (sym (now.holds j))))
      ∙ ap (λ hs. kept (is_by hs) 0 g.less) holds
      ∙ sym (kept-is (x.sound.used x.up) to.tree d path made))

  reaped : reap full ≡ state_of (answered to 0)
  unfolding reap
  reaped =
      let new = answered to 0 in
      let opened = opened-loaded new last.sound in
      let counts : Counts new.files full.places =
      counts-joined new.files (loaded new).places new.spaces.places opened.counted in
      let opens : without_opens full ≡ full = without_opens-same full new.files opened.table counts in
      let pipes : without_pipes full ≡ full = without_pipes-same full opened.piped in
      ap (λ (s : State). without_nodes (without_pipes s)) opens ∙ ap without_nodes pipes ∙ nodes-reaped

  unlinks : row_of x Unlink ≡ with_made (state_of k) (nameless k.tree.files d path)
      → Acts k to i (Some Unlink) (Answers 0)
  unlinks makes =
      let answered-is : change_process (with_files (state_of k) g.less) i (with_answer 0) ≡ full =
      ap (λ (s : State). change_process (with_files s g.less) i (with_answer 0)) (sym (tree-state x rest sound limit))
      ∙ ap (λ (s : State). with_files s g.less) (answer-here here-then 0) in
      let within : is_within (with_files (state_of k) g.less) ≡ true =
      within-files (state_of k) g.less (unlinked-less k.tree.files g.at g.less g.made).blocks
      ∙ within-state k x.sound x.up in
      let settled : settle (state_of k) i (limited (Done (with_files (state_of k) g.less) 0 []))
      ≡ quiet (state_of (answered to 0)) =
      rw within (settle-reaped (state_of k) (with_files (state_of k) g.less) i 0 [] answered-is (process-here last)
      (free-here here-then) reaped) in
      settles x Unlink 0 here-then (record { up = up; same_device = device; later = later })
      (ap (λ (o : Outcome). settle (state_of k) i (limited o))
      (makes ∙ ap (with_made (state_of k)) (ap (option_and_then (unlinked k.tree.files)) g.spot ∙ g.made))
      ∙ settled)

-- ---- the process that calls

module _ {k : Kernel} {i : ℕ} (x : Here k i) {path : List ℕ} (is : Some path ≡ path_argument k i 0) {new : Kernel}
    (rest : new ≡ with_tree k new.tree) (sound : IsKernel new) where
  unlink-makes : row_of x Unlink ≡ with_made (state_of k) (nameless k.tree.files (directory_at k i) path)
  unlink-makes = rw (home-is x) (unlink-row (state_of k) i (me x) path (path-is x 0 is))

  pub unlink-acts : {r : Result (Unit {0}) TreeFault} → TakesName k.tree new.tree (directory_at k i) path r
      → ActsNamed k new i Unlink r
  unlink-acts acts = named-acts x rest sound acts Unlink
      (λ v e. unlinks x (directory_at k i) path rest sound (rw e at acts.done) acts.limit acts.holds
      (acts.failed ∙ ap has_failed e) acts.same_device acts.later unlink-makes)
      (λ none. ap limited unlink-makes
      ∙ ap (λ (o : Option Files). limited (with_made (state_of k) o))
      (nameless-none k.tree.holds k.tree.files (directory_at k i) path none))
