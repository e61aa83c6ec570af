use Rattle.hart.proofs.Common.{AreFree, arith, goes_to, IfSome, List, Next, None, Option, pc_at, Some, trap_of}
use Rattle.hart.proofs.Common.{ℕ, refl, ◌<◌, ◌≡◌, ◌≤◌}
use Rattle.hart.specs.Stops.{IsOnward}
use Rattle.hart.specs.declared.stops.Known.{Known}
use Rattle.hart.proofs.run.onward.Goals as goal

-- where nothing trapped
untrapped : (next : Next) (o : Option (ℕ × Known)) → trap_of next ≡ None → IfSome o (λ r. trap_of next ≡ None)
untrapped next None none = tt
untrapped next (Some r) none = none

-- at word k, as nothing jumped
stays : (stops : List ℕ) (base k : ℕ) (next : Next) (known : Known) (o : Option (ℕ × Known))
    → goes_to (pc_at base k) next ≡ pc_at base k → AreFree stops base known → known.here.from ≤ k
    → IfSome o (λ r. (r.0 ≡ k) × (r.1 ≡ known) × (k < known.here.to))
    → IfSome o (IsOnward stops base (goes_to (pc_at base k) next))
stays stops base k next known None there free from is = tt
stays stops base k next known (Some r) there free from is = record {
  below = omega (arith, is.0, is.2, free.within);
  at = rw (there, is.0) refl;
  past = rw there (free.here k from is.2);
  free = rw is.1 free;
  since = rw (is.0, is.1) from;
  before = rw (is.0, is.1) is.2;
}

pub returns-in-Behind : goal.returns-in-Behind
returns-in-Behind g c = record {
  done = untrapped c.args.next.now c.within.result (rw c.in-Behind.is refl);
  on = stays (g.S.Stops.addresses c.args.stops.now) c.args.base c.args.k c.args.next.now c.args.known c.within.result
      (rw c.in-Behind.is refl) c.requires.known (c.requires.from (rw c.in-Behind.is refl)) c.within.ensures;
}

pub returns-in-Stored : goal.returns-in-Stored
returns-in-Stored g c = record {
  done = untrapped c.args.next.now c.within-in-Stored.result (rw c.in-Stored.is refl);
  on = stays (g.S.Stops.addresses c.args.stops.now) c.args.base c.args.k c.args.next.now c.args.known
      c.within-in-Stored.result (rw c.in-Stored.is refl) c.requires.known (c.requires.from (rw c.in-Stored.is refl))
      c.within-in-Stored.ensures;
}

pub returns-in-At : goal.returns-in-At
returns-in-At g c = record {
  done = untrapped c.args.next.now c.goes_to_word.result (rw c.in-At.is refl);
  on = rw c.in-At.is c.goes_to_word.ensures;
}

pub returns-in-Within : goal.returns-in-Within
returns-in-Within g c = record {
  done = untrapped c.args.next.now c.goes_to_index.result (rw c.in-Within.is refl);
  on = rw c.in-Within.is c.goes_to_index.ensures;
}
