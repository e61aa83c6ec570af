-- The rows of open and pipe, which take numbers that are free: they come to the same with other numbers.
use Rattle.std.proofs.Common.{[], ap, List, map, None, Option, refl, Some, sym}
use Rattle.std.proofs.Common.{ℕ, ◌∙◌, ◌∷◌, ◌≡◌}
use Rattle.std.specs.Prelude.{option_map}
use Rattle.renumbering.proofs.Outcomes.{Agrees, agrees-both, agrees-provided, agrees-same}
use Rattle.renumbering.proofs.Slots.{each-more, each-put, free-is, free-map, put-map, there-put, there-written}
use Rattle.renumbering.proofs.Tables.{moved-free, sent, sent-there}
use Rattle.renumbering.proofs.States.{Fits, Seen, View, file-else, fits-file, fits-held, fits-open, fits-pipe}
use Rattle.renumbering.proofs.States.{places-same, process-same}
use Rattle.renumbering.proofs.States.{seen-places, state_in}
use Rattle.renumbering.specs.Renumbered.{AreOpen, EachTaken, IsThere, Renumbering}
use Rattle.renumbering.specs.Renumbered.{places_moved, process_moved}
use Rattle.unixmodel.specs.FileCalls.{pipe_end}
use Rattle.unixmodel.specs.FileCalls.{pipe_row}
use Rattle.unixmodel.specs.FileCalls.{with_both, with_descriptor}
use Rattle.unixmodel.specs.Files.{Files, find, free_slot, put, slot}
use Rattle.unixmodel.specs.Memory.{can_write}
use Rattle.unixmodel.specs.NameCalls.{found_or_made}
use Rattle.unixmodel.specs.NameCalls.{may_open, open_row, opened, path_arg, truncated}
use Rattle.unixmodel.specs.Numbers.{low}
use Rattle.unixmodel.specs.OpenFiles.End.{ReadEnd, WriteEnd}
use Rattle.unixmodel.specs.Process.{Process, arg}
use Rattle.unixmodel.specs.State.{State}

module _ {v : View} {s : State} (fits : Fits v s) (i : ℕ) (p : Process) (named : AreOpen s.opens p) where
  abbrev t : State
  t = state_in v s

  abbrev q : Process
  q = process_moved v.files p

  -- ---- open

  module _ (k b : ℕ) (files : Files) (n : ℕ) (here : free_slot s.opens ≡ Some k)
      (there : free_slot v.opens ≡ Some b) where
    abbrev numbers : Renumbering
    numbers = sent v.files k b

    -- the process with a new descriptor
    with-new : (d : ℕ) (flags : ℕ)
        → Seen (record s {
          places = put s.places i (with_descriptor p d k);
          files = files;
          opens = put s.opens k (opened flags n);
        })
        (record t {
          places = put (places_moved v.files s.places) i (with_descriptor q d b);
          files = files;
          opens = put v.opens b (opened flags n);
        })
    unfolding state_in
    with-new d flags =
        let more = fits-open (fits-file fits k b here there) k b (opened flags n) (opened flags n)
        (sym (sent-there v.files k b)) refl tt in
        let still : (p : Process) → AreOpen s.opens p → AreOpen (put s.opens k (opened flags n)) p =
        λ p named. each-more (λ m taken. there-put s.opens k m (opened flags n) taken) named in
        seen-places more (put s.places i (with_descriptor p d k)) _ files s.console s.ticks s.next_pid s.last s.halted
        (ap (λ ps. put ps i (with_descriptor q d b))
        (sym (places-same s.opens numbers v.files (file-else fits k b here there) s.places fits.there.descriptors))
        ∙ ap (put (places_moved numbers s.places) i) (ap (λ (ds : List (Option ℕ)). record p { descriptors = ds })
        (ap (λ m. put (map (option_map v.files.there) p.descriptors) d m) (sym (sent-there v.files k b))
        ∙ ap (λ (u : Process). put u.descriptors d (numbers.there k))
        (sym (process-same s.opens numbers v.files (file-else fits k b here there) p named))
        ∙ put-map numbers.there p.descriptors d k))
        ∙ put-map (process_moved numbers) s.places i (with_descriptor p d k))
        (each-put i (with_descriptor p d k)
        (each-put d k (there-written s.opens k (opened flags n) (free-is s.opens k here).0) (still p named))
        (each-more still fits.there.descriptors))

  pub open-agrees : Agrees (open_row s i p) (open_row t i q)
  unfolding open_row state_in
  open-agrees =
      agrees-same (path_arg p 0) _ _ _ refl λ path is.
      agrees-same (found_or_made s.files p.directory path (low (arg p 1)) (find s.files p.directory path)) _ _ _ refl
      λ got found.
      agrees-same (slot got.files got.number) _ _ _ refl λ node there.
      agrees-provided (may_open (low (arg p 1)) node) _ _ _ refl (
      agrees-same (free_slot p.descriptors) _ _ _ (free-map v.files.there p.descriptors) λ fd free.
      agrees-both (free_slot s.opens) (free_slot v.opens) _ _ (moved-free fits.opens) λ k b here there. (
        with-new k b (truncated (low (arg p 1)) got) got.number here there fd (low (arg p 1)),
        refl,
        refl,
      ))

  -- ---- pipe

  module _ (r c : ℕ) (here : free_slot s.pipes ≡ Some r) (there : free_slot v.held ≡ Some c) where
    abbrev with_pipe : State
    with_pipe = record s { pipes = put s.pipes r [] }

    abbrev pipe_view : View
    pipe_view = record v { pipes = sent v.pipes r c; held = put v.held c [] }

    piped : Fits pipe_view with_pipe
    piped = fits-held (fits-pipe fits r c here there) r c [] (sym (sent-there v.pipes r c))

    module _ (k b : ℕ) (free : free_slot s.opens ≡ Some k) (empty : free_slot v.opens ≡ Some b) where
      abbrev with_read_end : State
      with_read_end = record with_pipe { opens = put s.opens k (pipe_end r ReadEnd) }

      abbrev read_view : View
      read_view = record pipe_view { files = sent v.files k b; opens = put v.opens b (pipe_end c ReadEnd) }

      read-end : Fits read_view with_read_end
      read-end = fits-open (fits-file piped k b free empty) k b (pipe_end r ReadEnd) (pipe_end c ReadEnd)
          (sym (sent-there v.files k b)) (ap (λ n. pipe_end n ReadEnd) (sym (sent-there v.pipes r c)))
          (there-written s.pipes r [] (free-is s.pipes r here).0)

      module _ (m d : ℕ) (next : free_slot with_read_end.opens ≡ Some m) (after : free_slot read_view.opens ≡ Some d)
        where
          abbrev with_ends : State
          with_ends = record with_read_end { opens = put with_read_end.opens m (pipe_end r WriteEnd) }

          abbrev ends_view : View
          ends_view = record read_view {
            files = sent (sent v.files k b) m d;
            opens = put read_view.opens d (pipe_end c WriteEnd);
          }

          both-ends : Fits ends_view with_ends
          both-ends = fits-open (fits-file read-end m d next after) m d (pipe_end r WriteEnd) (pipe_end c WriteEnd)
              (sym (sent-there (sent v.files k b) m d)) (ap (λ n. pipe_end n WriteEnd) (sym (sent-there v.pipes r c)))
              (there-written s.pipes r [] (free-is s.pipes r here).0)

          -- the numbers of the files that were there
          else-before : (n : ℕ) → IsThere s.opens n → ends_view.files.there n ≡ v.files.there n
          else-before n taken =
              file-else read-end m d next after n (there-put s.opens k n (pipe_end r ReadEnd) taken)
              ∙ file-else piped k b free empty n taken

          first-end : ends_view.files.there k ≡ b
          first-end = file-else read-end m d next after k
              (there-written s.opens k (pipe_end r ReadEnd) (free-is s.opens k free).0) ∙ sent-there v.files k b

          still-there : (ds : List (Option ℕ)) → EachTaken (IsThere s.opens) ds → EachTaken (IsThere with_ends.opens) ds
          still-there ds each = each-more (λ n taken.
              there-put with_read_end.opens m n (pipe_end r WriteEnd)
              (there-put s.opens k n (pipe_end r ReadEnd) taken)) each

          descriptors-in : (x y : ℕ) → put (put q.descriptors x b) y d
              ≡ map (option_map ends_view.files.there) (put (put p.descriptors x k) y m)
          descriptors-in x y =
              ap (λ (u : Process). put (put u.descriptors x b) y d)
              (sym (process-same s.opens ends_view.files v.files else-before p named))
              ∙ ap (λ n. put (put (map (option_map ends_view.files.there) p.descriptors) x n) y d) (sym first-end)
              ∙ ap (λ ds. put ds y d) (put-map ends_view.files.there p.descriptors x k)
              ∙ ap (put (map (option_map ends_view.files.there) (put p.descriptors x k)) y)
              (sym (sent-there (sent v.files k b) m d))
              ∙ put-map ends_view.files.there (put p.descriptors x k) y m

          with-pipe : (a x y : ℕ)
              → Seen (record with_ends { places = put s.places i (with_both p a x k y m) })
              (record t {
                places = put (places_moved v.files s.places) i (with_both q a x b y d);
                opens = ends_view.opens;
                pipes = put v.held c [];
              })
          unfolding state_in
          with-pipe a x y =
              let made = with_both p a x k y m in
              seen-places both-ends (put s.places i made) _ s.files s.console s.ticks s.next_pid s.last s.halted
              (ap (λ ps. put ps i (with_both q a x b y d))
              (sym (places-same s.opens ends_view.files v.files else-before s.places fits.there.descriptors))
              ∙ ap (put (places_moved ends_view.files s.places) i)
              (ap (λ (ds : List (Option ℕ)). record made { descriptors = ds }) (descriptors-in x y))
              ∙ put-map (process_moved ends_view.files) s.places i made)
              (each-put i made
              (each-put y m
              (there-written with_read_end.opens m (pipe_end r WriteEnd) (free-is with_read_end.opens m next).0)
              (each-put x k (there-put with_read_end.opens m k (pipe_end r WriteEnd)
              (there-written s.opens k (pipe_end r ReadEnd) (free-is s.opens k free).0))
              (still-there p.descriptors named)))
              (each-more (λ p named. still-there p.descriptors named) fits.there.descriptors))

  -- whatever is put there
  abbrev zero_of : ℕ → ℕ
  zero_of n = 0

  second-free : (x k b : ℕ) → free_slot (put q.descriptors x b) ≡ free_slot (put p.descriptors x k)
  second-free x k b =
      sym (free-map zero_of (put q.descriptors x b))
      ∙ ap free_slot (sym (put-map zero_of q.descriptors x b)
      ∙ ap (λ ds. put ds x 0) (hidden p.descriptors)
      ∙ put-map zero_of p.descriptors x k)
      ∙ free-map zero_of (put p.descriptors x k)
    where
      hidden : (ds : List (Option ℕ))
          → map (option_map zero_of) (map (option_map v.files.there) ds) ≡ map (option_map zero_of) ds
      hidden [] = refl
      hidden (None ∷ ds) = ap (λ us. None ∷ us) (hidden ds)
      hidden (Some n ∷ ds) = ap (λ us. Some 0 ∷ us) (hidden ds)

  pub pipe-agrees : Agrees (pipe_row s i p) (pipe_row t i q)
  unfolding pipe_row state_in
  pipe-agrees =
      agrees-provided (can_write p.memory (arg p 0) 8) _ _ _ refl (
      agrees-both (free_slot s.pipes) (free_slot v.held) _ _ (moved-free fits.held) λ r c here there.
      agrees-both (free_slot s.opens) (free_slot v.opens) _ _ (moved-free fits.opens) λ k b free empty.
      agrees-both (free_slot (put s.opens k (pipe_end r ReadEnd))) (free_slot (put v.opens b (pipe_end c ReadEnd))) _ _
      (moved-free (read-end r c here there k b free empty).opens) λ m d next after.
      agrees-same (free_slot p.descriptors) _ _ _ (free-map v.files.there p.descriptors) λ x first.
      agrees-same (free_slot (put p.descriptors x k)) _ _ _ (second-free x k b) λ y second. (
        with-pipe r c here there k b free empty m d next after (arg p 0) x y,
        refl,
        refl,
      ))
