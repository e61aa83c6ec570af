use Rattle.hart.proofs.Common.{Acts, arith, ap, At, Behind, cases_lt, inl, inr, instruction_of, KeepsLive}
use Rattle.hart.proofs.Common.{None, pc_at, refl, slice_index, Stop, Stored, sym, Trap, trap_of, Within}
use Rattle.hart.proofs.Common.{word_by, word_in}
use Rattle.hart.proofs.Common.{◌*◌, ◌+◌, ◌-◌, ◌<◌, ◌∙◌, ◌≡◌}
use Rattle.hart.proofs.Pages.{none-goes}
use Rattle.hart.proofs.Straight.{acts-at, acts-meant, GoesStraight, pc-next, straight-begins, straight-ends}
use Rattle.hart.proofs.Straight.{straight-more, straight-on, straight-stops, whole-after, word-at}
use Rattle.hart.specs.declared.operation.Op.TheVariants as op
use Rattle.hart.proofs.state.Hart.straight.Given as given
use Rattle.hart.proofs.state.Hart.straight.Goals as goal
use Rattle.hart.proofs.state.Hart.straight.Goals.{After-obey}

-- where nothing traps, the end has not come
early : (g : given.Over) (c : After-obey g) → trap_of c.obey.result ≡ None → c.word.k < c.args.end
early g c none = elim c.word.invariant.marked [
  | inl less ↦ less
  | inr whole ↦ elim (cases_lt c.word.k c.args.end) [
    | inl less ↦ less
    | inr most ↦
        let end : c.word.k ≡ 64 * c.args.part + 64 = omega (arith, most, whole, c.word.invariant.within) in
        absurd (none-goes _ _ (acts-meant _ 0 (rw end (c.ops_of-ops.ensures.of_end op.Illegal))
        (c.obey.ensures.acts op.Illegal)) none)
  ]
]

inside : (g : given.Over) (c : After-obey g) → c.word.k < c.args.end → c.word.k < 1024
inside g c less = omega (arith, less, c.requires.can.below)

-- the word that is in memory now was done
acted : (g : given.Over) (c : After-obey g) → c.word.k < c.args.end
    → Acts (g.T.Translate.held c.word.trans) (g.T.Translate.held c.obey.new.trans)
    (word_by (instruction_of (word_in c.word.ram c.args.f.0 (pc_at c.args.base c.word.k))) c.word.self.registers
    (pc_at c.args.base c.word.k)) c.obey.result (pc_at c.args.base c.word.k) c.word.self c.obey.new.self
    c.word.ram c.obey.new.ram
acted g c less =
    let k = c.word.k in
    let words = c.word.invariant.words c.args.f.0 c.requires.can.live k in
    acts-at c.args.f.0 (c.requires.can.now k c.word.invariant.since less ∙ sym words
    ∙ word-at c.word.ram c.args.f.0 k c.requires.page (omega (arith, c.ranges.base.fits)) (inside g c less))
    (acts-meant _ (slice_index c.args.page.now.words k) (c.ops_of-ops.ensures.of_words k op.Illegal
    (omega (arith, c.requires.can.since, c.word.invariant.since)) (omega (arith, less, c.requires.can.within)))
    (c.obey.ensures.acts op.Illegal))

pub word-init : goal.word-init
word-init g c = record {
  since = omega arith;
  within = omega (arith, c.requires.can.some);
  marked = inl c.requires.can.some;
  done = straight-begins c.requires.can.inside;
  words = λ f live k. refl;
}

-- one more is done, and nothing jumped
moved : (g : given.Over) (c : After-obey g) → c.obey.result ≡ Behind
    → GoesStraight (g.T.Translate.held c.args.trans.now) (g.T.Translate.held c.obey.new.trans) c.args.self.now
    c.obey.new.self c.args.ram.now c.obey.new.ram c.args.base c.args.from (c.word.k + 1) c.args.f.0
moved g c behind =
    let less = early g c (ap trap_of behind) in
    straight-more c.frames_are_whole.ensures.memory c.requires.page (omega (arith, c.ranges.base.fits))
    (inside g c less) c.word.invariant.since c.word.invariant.done (rw behind at (acted g c less))

-- the words of known pages are as they were
stayed : (g : given.Over) (c : After-obey g) → c.obey.result ≡ Behind
    → KeepsLive Behind c.args.live.now.frames c.args.ram.now c.obey.new.ram
stayed g c behind f live k none = (rw behind at c.obey.ensures.words) f live k (λ e. cc)
    ∙ c.word.invariant.words f live k

pub word-preserved : goal.word-preserved
word-preserved g c =
    let after = (goal.at.word-preserved g c).After-obey in
    let less = early g after (ap trap_of c.in-Behind.is) in
    record {
      since = omega (arith, c.word.invariant.since);
      within = omega (arith, less);
      marked = elim c.requires.least [
        | inl one ↦ elim c.else-this-eq1.either [
          | inl more ↦ inl (omega (arith, less, more.1))
          | inr many ↦ absurd (many one)
        ]
        | inr whole ↦ inr whole
      ];
      done = moved g after c.in-Behind.is;
      words = λ f live k. stayed g after c.in-Behind.is f live k (λ e. cc);
    }

-- one more is done, and it jumps or stores
pub returns-in-Stored : goal.returns-in-Stored
returns-in-Stored g c =
    let after = (goal.at.returns-in-Stored g c).After-obey in
    let less = early g after (ap trap_of c.in-Stored.is) in
    let there : c.args.from + (c.word.k - c.args.from + 1) ≡ c.word.k + 1 = omega (arith, c.word.invariant.since) in
    record {
      goes = λ mapping stops at clear.
          rw (there, ← pc-next c.args.base c.word.k)
          (straight-on {next = Stored c.in-Stored.g c.in-Stored.stored} {new = c.obey.new.self} c.requires.page
          (omega (arith, c.ranges.base.fits)) (inside g after less) c.word.invariant.done
          (rw c.in-Stored.is at (acted g after less))
          mapping stops at c.frames_are_whole.ensures.memory refl c.word.invariant.since (rw there at clear));
      words = λ f live k other. (rw c.in-Stored.is at c.obey.ensures.words) f live k other
          ∙ c.word.invariant.words f live k;
      whole = whole-after c.word.invariant.done.whole (c.obey.ensures.acts op.Illegal);
      within = omega (arith, less, c.word.invariant.since);
      moves = omega arith;
    }

pub returns-in-Within : goal.returns-in-Within
returns-in-Within g c =
    let after = (goal.at.returns-in-Within g c).After-obey in
    let less = early g after (ap trap_of c.in-Within.is) in
    let there : c.args.from + (c.word.k - c.args.from + 1) ≡ c.word.k + 1 = omega (arith, c.word.invariant.since) in
    record {
      goes = λ mapping stops at clear.
          straight-on {next = Within c.in-Within.to} {new = c.obey.new.self} c.requires.page
          (omega (arith, c.ranges.base.fits)) (inside g after less) c.word.invariant.done
          (rw c.in-Within.is at (acted g after less))
          mapping stops at c.frames_are_whole.ensures.memory refl c.word.invariant.since (rw there at clear);
      words = λ f live k other. (rw c.in-Within.is at c.obey.ensures.words) f live k (λ e. cc)
          ∙ c.word.invariant.words f live k;
      whole = whole-after c.word.invariant.done.whole (c.obey.ensures.acts op.Illegal);
      within = omega (arith, less, c.word.invariant.since);
      moves = omega arith;
    }

pub returns-in-At : goal.returns-in-At
returns-in-At g c =
    let after = (goal.at.returns-in-At g c).After-obey in
    let less = early g after (ap trap_of c.in-At.is) in
    let there : c.args.from + (c.word.k - c.args.from + 1) ≡ c.word.k + 1 = omega (arith, c.word.invariant.since) in
    record {
      goes = λ mapping stops at clear.
          straight-on {next = At c.in-At.to} {new = c.obey.new.self} c.requires.page
          (omega (arith, c.ranges.base.fits)) (inside g after less) c.word.invariant.done
          (rw c.in-At.is at (acted g after less))
          mapping stops at c.frames_are_whole.ensures.memory refl c.word.invariant.since (rw there at clear);
      words = λ f live k other. (rw c.in-At.is at c.obey.ensures.words) f live k (λ e. cc)
          ∙ c.word.invariant.words f live k;
      whole = whole-after c.word.invariant.done.whole (c.obey.ensures.acts op.Illegal);
      within = omega (arith, less, c.word.invariant.since);
      moves = omega arith;
    }

-- none is done, and it traps
pub returns-in-Stop : goal.returns-in-Stop
returns-in-Stop g c =
    let after = (goal.at.returns-in-Stop g c).After-obey in
    let less : c.word.k < c.args.end = omega (arith, c.word.invariant.within, c.if-k-end.false) in
    let same : c.args.from + (c.word.k - c.args.from) ≡ c.word.k = omega (arith, c.word.invariant.since) in
    record {
      goes = λ mapping stops at clear.
          rw same (straight-stops {next = Stop c.in-Stop.trap} {new = c.obey.new.self} c.requires.page
          (omega (arith, c.ranges.base.fits)) (inside g after less) c.word.invariant.done
          (rw c.in-Stop.is at (acted g after less)) mapping stops at refl (rw same at clear));
      words = λ f live k other. (rw c.in-Stop.is at c.obey.ensures.words) f live k (λ e. cc)
          ∙ c.word.invariant.words f live k;
      whole = whole-after c.word.invariant.done.whole (c.obey.ensures.acts op.Illegal);
      within = omega (arith, less, c.word.invariant.since);
      moves = omega (arith, less, c.word.invariant.since);
    }

-- all are done
ended : (g : given.Over) (c : After-obey g) {trap : Trap} → c.obey.result ≡ Stop trap → c.word.k ≡ c.args.end
    → GoesStraight (g.T.Translate.held c.args.trans.now) (g.T.Translate.held c.obey.new.trans) c.args.self.now
    c.obey.new.self c.args.ram.now c.obey.new.ram c.args.base c.args.from c.args.end c.args.f.0
ended g c stopped end = rw end at (straight-ends c.word.invariant.done (rw stopped at (c.obey.ensures.acts op.Illegal)))

pub returns-then-k-end : goal.returns-then-k-end
returns-then-k-end g c =
    let same : c.args.from + (c.args.end - c.args.from) ≡ c.args.end = omega (arith, c.requires.can.some) in
    let straight = ended g (goal.at.returns-then-k-end g c).After-obey c.in-Stop.is c.if-k-end.true in
    record {
      goes = λ mapping stops at clear. rw same (straight.goes mapping stops at (rw same at clear));
      words = λ f live k other. (rw c.in-Stop.is at c.obey.ensures.words) f live k (λ e. cc)
          ∙ c.word.invariant.words f live k;
      whole = straight.whole;
      within = omega (arith, c.requires.can.some);
      moves = refl;
    }

pub returns-then-k-end-2 : goal.returns-then-k-end-2
returns-then-k-end-2 g c =
    let after = (goal.at.returns-then-k-end-2 g c).After-obey in
    let same : c.args.from + (c.args.end - c.args.from) ≡ c.args.end = omega (arith, c.requires.can.some) in
    let straight = rw c.if-k-end-2.true at (moved g after c.in-Behind.is) in
    record {
      goes = λ mapping stops at clear. rw same (straight.goes mapping stops at (rw same at clear));
      words = stayed g after c.in-Behind.is;
      whole = straight.whole;
      within = omega (arith, c.requires.can.some);
      moves = refl;
    }
