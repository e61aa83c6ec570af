use Rattle.vm.proofs.Common.{◌≡◌, ℕ, ◌+◌, ◌<◌, ◌≤◌, ◌^◌, length, take, Option, Some, sym, ap, ◌∙◌, arith, slice_get}
use Rattle.vm.proofs.Common.{Load, reach, string_at, pages_of, IsSized, piece_at}
use Rattle.vm.proofs.PageLemmas.{length-pages, pages-sized}
use Rattle.vm.proofs.ReachLemmas.{piece-first, strings-start, strings-next, string-open, string-ends, string-long}
use Rattle.vm.proofs.ReachLemmas.{string-fits}
use Rattle.vm.proofs.Space.copy_string.Goals as goal
use Rattle.vm.proofs.Space.copy_string.Goals.{After-frames_are_whole}

sized : (c : After-frames_are_whole) → IsSized (pages_of c.args.ram.now c.args.self.now)
sized c = pages-sized _ _ _ _ c.frames_are_whole.ensures.memory c.requires

-- an address that is reached is one of 64 bits
fits : (c : After-frames_are_whole) (n : ℕ)
    → n ≤ length (reach Load (pages_of c.args.ram.now c.args.self.now) c.args.address) → c.args.address + n < 2 ^ 64
fits c n low = string-fits Load _ c.args.address n (sized c) (omega (arith, length-pages, c.requires.small))
    (omega arith) low

-- the byte at an address is the next that is reached
next : (c : After-frames_are_whole) (n : ℕ) (o : Option ℕ)
    → n ≤ length (reach Load (pages_of c.args.ram.now c.args.self.now) c.args.address)
    → o ≡ slice_get (piece_at Load (pages_of c.args.ram.now c.args.self.now) (c.args.address + n)) 0
    → slice_get (reach Load (pages_of c.args.ram.now c.args.self.now) c.args.address) n ≡ o
next c n o low e = sym (e ∙ piece-first Load _ c.args.address n (sized c) low)

pub loop-i-init : goal.loop-i-init
loop-i-init c = strings-start (reach Load (pages_of c.args.ram.now c.args.self.now) c.args.address) c.args.buffer.now

pub overflow_add-address : goal.overflow_add-address
overflow_add-address c =
    omega (arith, fits (goal.at.overflow_add-address c).After-frames_are_whole c.loop-i.i c.loop-i.invariant.within)

pub returns-in-Some-eq0-clause-string : goal.returns-in-Some-eq0-clause-string
unfolding string_at
returns-in-Some-eq0-clause-string c =
    let at = (goal.at.returns-in-Some-eq0-clause-string c).After-frames_are_whole in
    let i = c.loop-i.invariant in
    sym (string-ends i (length c.args.buffer.now) (omega arith)
    (next at c.loop-i.i _ i.within c.in-Some-eq0.ensures ∙ ap Some c.in-Some-eq0.field-0-test))

pub returns-in-None-clause-string : goal.returns-in-None-clause-string
unfolding string_at
returns-in-None-clause-string c =
    let i = c.loop-i.invariant in
    sym (string-open i (length c.args.buffer.now)
    (next (goal.at.returns-in-None-clause-string c).After-frames_are_whole c.loop-i.i _ i.within c.in-None.ensures))

pub loop-i-preserved : goal.loop-i-preserved
loop-i-preserved c =
    let i = c.loop-i.invariant in
    strings-next i (omega arith)
    (next (goal.at.loop-i-preserved c).After-frames_are_whole c.loop-i.i _ i.within c.in-Some.ensures)
    c.in-Some.byte-test.1

pub overflow_add-address-2 : goal.overflow_add-address-2
overflow_add-address-2 c =
    let all : length c.loop-i.buffer ≡ c.loop-i.i = omega arith in
    omega (
      arith,
      fits (goal.at.overflow_add-address-2 c).After-frames_are_whole (length c.loop-i.buffer)
          (omega (arith, all, c.loop-i.invariant.within)),
    )

pub returns-in-Some-eq0-byte_at-clause-string : goal.returns-in-Some-eq0-byte_at-clause-string
unfolding string_at
returns-in-Some-eq0-byte_at-clause-string c =
    let at = (goal.at.returns-in-Some-eq0-byte_at-clause-string c).After-frames_are_whole in
    let i = c.loop-i.invariant in
    let all : length c.loop-i.buffer ≡ c.loop-i.i = omega arith in
    ap (λ n. Some (take n c.loop-i.buffer)) all
    ∙ sym (string-ends i (length c.args.buffer.now) (omega arith)
    (next at c.loop-i.i _ i.within (rw all at c.in-Some-eq0-byte_at.ensures)
    ∙ ap Some c.in-Some-eq0-byte_at.field-0-test))

pub returns-in_default-clause-string : goal.returns-in_default-clause-string
unfolding string_at
returns-in_default-clause-string c =
    let i = c.loop-i.invariant in
    let all : length c.loop-i.buffer ≡ c.loop-i.i = omega arith in
    let most : c.loop-i.i ≡ length c.args.buffer.now = omega arith in
    let here = next (goal.at.returns-in_default-clause-string c).After-frames_are_whole c.loop-i.i _ i.within
    (rw all at c.byte_at-2.ensures) ∙ c.in_default.is in
    let long = string-long i here (λ z. c.in_default.field-0-test.1 (cc (z, c.in_default.field-0-is))) in
    sym (rw most at long)

pub returns-in_default-2-clause-string : goal.returns-in_default-2-clause-string
unfolding string_at
returns-in_default-2-clause-string c =
    let i = c.loop-i.invariant in
    let all : length c.loop-i.buffer ≡ c.loop-i.i = omega arith in
    sym (string-open i (length c.args.buffer.now)
    (next (goal.at.returns-in_default-2-clause-string c).After-frames_are_whole c.loop-i.i _ i.within
    (rw all at c.byte_at-2.ensures) ∙ c.in_default.is))
