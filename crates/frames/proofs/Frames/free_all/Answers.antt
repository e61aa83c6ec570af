use Rattle.std.proofs.Common.{◌≡◌, refl, arith, length, sym, ap, ◌∙◌, ◌-◌, ◌+◌, ◌∷◌, ℕ, List, get_or}
use Rattle.std.specs.List.{range_with_len}
use Rattle.frames.proofs.FreeLemmas.{free_of-none, IsFreeList-none, further-none, among-range_below, range-before}
use Rattle.frames.proofs.HolderLemmas.{IsShared-new}
use Rattle.frames.proofs.Frames.free_all.Goals as goal

pub loop-i-init : goal.loop-i-init
loop-i-init c =
    let none = free_of-none c.args.ram.now
    (record { first = record { 0 = 0 }; count = 0; holders = c.args.holders; shared = 0 }) refl in
    record {
      count = refl;
      valid = IsFreeList-none c.args.ram.now _ none c.requires refl;
      all = none;
      alone = λ f. further-none _ (length c.args.ram.now) f c.requires;
    }

pub give-requires-clause-held : goal.give-requires-clause-held
give-requires-clause-held c =
    rw c.loop-i.invariant.all
    (among-range_below (c.frame_count-count.result - 1 - c.loop-i.i) (length c.args.ram.now - c.loop-i.i) c.loop-i.i
    (omega (arith, c.frame_count-count.ensures.count)))

pub loop-i-preserved : goal.loop-i-preserved
loop-i-preserved c =
    let first : c.frame_count-count.result - 1 - c.loop-i.i ≡ length c.args.ram.now - (c.loop-i.i + 1) =
    omega (arith, c.frame_count-count.ensures.count) in
    let rest : length c.args.ram.now - (c.loop-i.i + 1) + 1 ≡ length c.args.ram.now - c.loop-i.i =
    omega (arith, c.frame_count-count.ensures.count) in
    let last = c.give.ensures.last (c.loop-i.invariant.alone (c.frame_count-count.result - 1 - c.loop-i.i)) in
    record {
      count = c.give.ensures.others.count ∙ c.loop-i.invariant.count;
      valid = c.give.ensures.valid;
      all = last.0 ∙ ap (λ l. (c.frame_count-count.result - 1 - c.loop-i.i) ∷ l) c.loop-i.invariant.all
          ∙ ap (λ f. f ∷ range_with_len (length c.args.ram.now - c.loop-i.i) c.loop-i.i) first
          ∙ sym (range-before _ _ c.loop-i.i rest);
      alone = λ f. ap (λ (t : List ℕ × ℕ). get_or t.0 f 0) last.1 ∙ c.loop-i.invariant.alone f;
    }

all : goal.returns-clause-all
all c =
    let end : c.loop-i.i ≡ length c.args.ram.now = omega (arith, c.frame_count-count.ensures.count) in
    let start : length c.args.ram.now - c.loop-i.i ≡ 0 = omega (arith, end) in
    c.loop-i.invariant.all ∙ ap (λ a. range_with_len a c.loop-i.i) start ∙ ap (range_with_len 0) end

pub returns-clause-all : goal.returns-clause-all
returns-clause-all c = all c

pub returns-clause-shared : goal.returns-clause-shared
returns-clause-shared c =
    IsShared-new c.loop-i.invariant.valid (all c ∙ ap (range_with_len 0) (sym c.loop-i.invariant.count))
    c.loop-i.invariant.alone
