-- A state with other numbers of open files and pipes, and what it is once the same is changed in both.
use Rattle.std.proofs.Common.{ap, Bool, length, List, nat_le, None, Option, refl, Some, subst}
use Rattle.std.proofs.Common.{sym, ℕ, ℤ, ◌+◌, ◌∙◌, ◌≡◌}
use Rattle.std.specs.Prelude.{option_map, position, sum_by, ◌&&◌}
use Rattle.renumbering.proofs.Slots.{change-map, each-change, each-more, each-put, fold-map, free-is, map-same}
use Rattle.renumbering.proofs.Slots.{position-map, put-map, slot-map, there-put}
use Rattle.renumbering.proofs.Tables.{moved-any, moved-count, moved-made, moved-put, moved-sent, sent, sent-else}
use Rattle.renumbering.proofs.Tables.{there-eq}
use Rattle.renumbering.specs.Renumbered.{AreOpen, EachTaken, IsMoved, IsOnPipeThere, IsThere, NamesAreThere}
use Rattle.renumbering.specs.Renumbered.{Renumbering, file_moved, places_moved, process_moved, target_moved}
use Rattle.unixmodel.specs.Console.{Console}
use Rattle.unixmodel.specs.Counts.{blocks_of, frames_of, is_within, process_frames}
use Rattle.unixmodel.specs.Files.{Files, free_slot, put, taken}
use Rattle.unixmodel.specs.OpenFiles.{End, OpenFile, Target, is_end, same_end}
use Rattle.unixmodel.specs.OpenFiles.Target.{OnNode, OnPipe}
use Rattle.unixmodel.specs.Process.{Process}
use Rattle.unixmodel.specs.State.{State, change_process, has_end, holds, open_limit, process_at, put_process}

-- ---- views

-- other numbers, and the tables that have them
pub record View : Type 0 where
  pub files : Renumbering
  pub pipes : Renumbering
  pub opens : List (Option OpenFile)
  pub held : List (Option (List ℕ))

unfoldable pub state_in : View → State → State
state_in v s = record s { places = places_moved v.files s.places; opens = v.opens; pipes = v.held }

-- they are those of a state
pub record Fits (v : View) (s : State) : Type 0 where
  pub opens : IsMoved v.files (file_moved v.pipes) s.opens v.opens
  pub held : IsMoved v.pipes (λ bytes. bytes) s.pipes v.held
  pub there : NamesAreThere s

-- t is s with other numbers
pub record Seen (s t : State) : Type 0 where
  pub view : View
  pub fits : Fits view s
  pub is : t ≡ state_in view s

-- ---- what is the same in both

-- a process that is found by what no descriptor shows
pub where-in : (r : Renumbering) (test : Process → Bool) → ((p : Process) → test (process_moved r p) ≡ test p)
    → (ps : List (Option Process)) → position (holds test) (places_moved r ps)
    ≡ position (holds test) ps
where-in r test same ps = position-map (process_moved r) (holds test) (holds test) by ps
  where
    by : (o : Option Process) → holds test (option_map (process_moved r) o) ≡ holds test o
    by None = refl
    by (Some p) = same p

end-in : (r : Renumbering) (q : ℕ) (end : End) (target : Target)
    → is_end (r.there q) end (target_moved r target) ≡ is_end q end target
end-in r q end (OnNode n offset) = refl
end-in r q end (OnPipe u e) = ap (λ b. b && same_end e end) (there-eq r u q)

module _ {v : View} {s : State} (fits : Fits v s) where
  pub at-in : (i : ℕ) → process_at (state_in v s) i ≡ option_map (process_moved v.files) (process_at s i)
  unfolding state_in
  at-in i = slot-map (process_moved v.files) s.places i

  pub has-end-in : (q : ℕ) (end : End) → has_end (state_in v s) (v.pipes.there q) end ≡ has_end s q end
  unfolding state_in
  has-end-in q end = moved-any fits.opens (λ f. is_end q end f.target) (λ f. is_end (v.pipes.there q) end f.target)
      (λ f. end-in v.pipes q end f.target)

  pub frames-in : frames_of (state_in v s) ≡ frames_of s
  unfolding state_in frames_of
  frames-in =
      ap (λ n. n + length (taken v.held))
      (fold-map (process_moved v.files) (λ n p. n + process_frames p) (λ n p. refl) 0 s.places)
      ∙ ap (λ n. sum_by process_frames (taken s.places) + n) (moved-count fits.held)

  pub within-in : is_within (state_in v s) ≡ is_within s
  unfolding state_in
  within-in =
      ap (λ n. nat_le n s.frame_limit && nat_le (blocks_of s.files) s.block_limit && nat_le (length (taken v.opens))
      open_limit) frames-in
      ∙ ap (λ n. nat_le (frames_of s) s.frame_limit && nat_le (blocks_of s.files) s.block_limit
      && nat_le n open_limit) (moved-count fits.opens)

  -- ---- the same is changed in both

  -- processes, and what has nothing to do with numbers
  pub seen-places : (ps qs : List (Option Process)) (files : Files) (console : Console) (ticks next_pid last : ℕ)
      (halted : Option ℤ) → qs ≡ places_moved v.files ps → EachTaken (AreOpen s.opens) ps
      → Seen
      (record s {
        places = ps;
        files = files;
        console = console;
        ticks = ticks;
        next_pid = next_pid;
        last = last;
        halted = halted;
      })
      (record (state_in v s) {
        places = qs;
        files = files;
        console = console;
        ticks = ticks;
        next_pid = next_pid;
        last = last;
        halted = halted;
      })
  unfolding state_in
  seen-places ps qs files console ticks next_pid last halted same named = record {
    view = v;
    fits = record {
      opens = fits.opens;
      held = fits.held;
      there = record { descriptors = named; pipes = fits.there.pipes };
    };
    is = ap (λ (places : List (Option Process)). record s {
      places = places;
      files = files;
      opens = v.opens;
      pipes = v.held;
      console = console;
      ticks = ticks;
      next_pid = next_pid;
      last = last;
      halted = halted;
    }) same;
  }

  pub seen-refl : Seen s (state_in v s)
  seen-refl = record { view = v; fits = fits; is = refl }

  -- files and the console
  pub seen-files : (files : Files) (console : Console)
      → Seen (record s { files = files; console = console })
      (record (state_in v s) { files = files; console = console })
  unfolding state_in
  seen-files files console = seen-places s.places (places_moved v.files s.places) files console s.ticks s.next_pid
      s.last s.halted refl fits.there.descriptors

  -- one process, files and the console
  pub seen-put : (i : ℕ) (q u : Process) (files : Files) (console : Console) → u ≡ process_moved v.files q
      → AreOpen s.opens q
      → Seen (record s { places = put s.places i q; files = files; console = console })
      (record (state_in v s) {
        places = put (places_moved v.files s.places) i u;
        files = files;
        console = console;
      })
  unfolding state_in
  seen-put i q u files console same named = seen-places (put s.places i q) (put (places_moved v.files s.places) i u)
      files console s.ticks s.next_pid s.last s.halted
      (ap (put (places_moved v.files s.places) i) same ∙ put-map (process_moved v.files) s.places i q)
      (each-put i q named fits.there.descriptors)

  -- with one process written, or changed, the numbers are still those
  pub fits-put : (i : ℕ) (q : Process) → AreOpen s.opens q → Fits v (put_process s i q)
  fits-put i q named = record {
    opens = fits.opens;
    held = fits.held;
    there = record { descriptors = each-put i q named fits.there.descriptors; pipes = fits.there.pipes };
  }

  pub put-is : (i : ℕ) (q : Process)
      → put_process (state_in v s) i (process_moved v.files q) ≡ state_in v (put_process s i q)
  unfolding state_in
  put-is i q = ap (λ (places : List (Option Process)). record s {
    places = places;
    opens = v.opens;
    pipes = v.held;
  }) (put-map (process_moved v.files) s.places i q)

  module _ (i : ℕ) (f : Process → Process)
      (same : (p : Process) → f (process_moved v.files p) ≡ process_moved v.files (f p))
      (named : (p : Process) → AreOpen s.opens p → AreOpen s.opens (f p)) where
    pub fits-change : Fits v (change_process s i f)
    fits-change = record {
      opens = fits.opens;
      held = fits.held;
      there = record { descriptors = each-change i f named fits.there.descriptors; pipes = fits.there.pipes };
    }

    pub change-is : change_process (state_in v s) i f ≡ state_in v (change_process s i f)
    unfolding state_in
    change-is = ap (λ (places : List (Option Process)). record s {
      places = places;
      opens = v.opens;
      pipes = v.held;
    }) (change-map (process_moved v.files) f i same s.places)

    pub seen-change : Seen (change_process s i f) (change_process (state_in v s) i f)
    seen-change = record { view = v; fits = fits-change; is = change-is }

  -- who was picked last does not matter
  pub fits-last : (i : ℕ) → Fits v (record s { last = i })
  fits-last i = record {
    opens = fits.opens;
    held = fits.held;
    there = record { descriptors = fits.there.descriptors; pipes = fits.there.pipes };
  }

  -- what a pipe holds
  pub fits-held : (q b : ℕ) (bytes : List ℕ) → b ≡ v.pipes.there q
      → Fits (record v { held = put v.held b bytes }) (record s { pipes = put s.pipes q bytes })
  fits-held q b bytes same = record {
    opens = fits.opens;
    held = moved-put fits.held q b bytes same;
    there = record {
      descriptors = fits.there.descriptors;
      pipes = each-more (λ f there. on-pipe f.target there) fits.there.pipes;
    };
  }
    where
      on-pipe : (target : Target) → IsOnPipeThere s.pipes target → IsOnPipeThere (put s.pipes q bytes) target
      on-pipe (OnNode n offset) there = there
      on-pipe (OnPipe u end) there = there-put s.pipes q u bytes there

  -- an open file
  pub fits-open : (k b : ℕ) (f g : OpenFile) → b ≡ v.files.there k → g ≡ file_moved v.pipes f
      → IsOnPipeThere s.pipes f.target
      → Fits (record v { opens = put v.opens b g }) (record s { opens = put s.opens k f })
  fits-open k b f g same made there = record {
    opens = subst (λ g. IsMoved v.files (file_moved v.pipes) (put s.opens k f) (put v.opens b g)) (sym made)
        (moved-put fits.opens k b f same);
    held = fits.held;
    there = record {
      descriptors = each-more (λ p named. each-more (λ n there. there-put s.opens k n f there) named)
          fits.there.descriptors;
      pipes = each-put k f there fits.there.pipes;
    };
  }

-- ---- a number that is free is taken

-- a process whose open files are there
pub process-same : (opens : List (Option OpenFile)) (q r : Renumbering)
    → ((k : ℕ) → IsThere opens k → q.there k ≡ r.there k) → (p : Process) → AreOpen opens p
    → process_moved q p ≡ process_moved r p
process-same opens q r same p named = ap (λ (ds : List (Option ℕ)). record p { descriptors = ds })
    (map-same q.there r.there p.descriptors (each-more same named))

pub places-same : (opens : List (Option OpenFile)) (q r : Renumbering)
    → ((k : ℕ) → IsThere opens k → q.there k ≡ r.there k) → (ps : List (Option Process))
    → EachTaken (AreOpen opens) ps → places_moved q ps ≡ places_moved r ps
places-same opens q r same ps named =
    map-same (process_moved q) (process_moved r) ps (each-more (process-same opens q r same) named)

module _ {v : View} {s : State} (fits : Fits v s) (a b : ℕ) where
  -- that of an open file
  module _ (here : free_slot s.opens ≡ Some a) (there : free_slot v.opens ≡ Some b) where
    pub fits-file : Fits (record v { files = sent v.files a b }) s
    fits-file = record {
      opens = moved-sent fits.opens a b (free-is s.opens a here).1 (free-is v.opens b there).1
          (free-is s.opens a here).0 (free-is v.opens b there).0;
      held = fits.held;
      there = fits.there;
    }

    pub file-else : (k : ℕ) → IsThere s.opens k → (sent v.files a b).there k ≡ v.files.there k
    file-else k taken = sent-else fits.opens a b (free-is s.opens a here).1 (free-is v.opens b there).1 k taken

  -- that of a pipe
  module _ (here : free_slot s.pipes ≡ Some a) (there : free_slot v.held ≡ Some b) where
    pub fits-pipe : Fits (record v { pipes = sent v.pipes a b }) s
    fits-pipe = record {
      opens = moved-made fits.opens (file_moved (sent v.pipes a b)) (λ k f at.
          ap (λ (t : Target). record f { target = t }) (target f.target (fits.there.pipes.at k f at)));
      held = moved-sent fits.held a b (free-is s.pipes a here).1 (free-is v.held b there).1
          (free-is s.pipes a here).0 (free-is v.held b there).0;
      there = fits.there;
    }
      where
        target : (t : Target) → IsOnPipeThere s.pipes t → target_moved (sent v.pipes a b) t ≡ target_moved v.pipes t
        target (OnNode n offset) taken = refl
        target (OnPipe q end) taken = ap (λ n. OnPipe n end)
            (sent-else fits.held a b (free-is s.pipes a here).1 (free-is v.held b there).1 q taken)
