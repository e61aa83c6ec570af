use Rattle.tree.proofs.Common.{ap, sym, ◌∙◌, ◌∷◌, lookup-used, reach}
use Rattle.tree.proofs.Following.{end-lost, looked, now-begin, now-read, now-up, used-now}
use Rattle.tree.proofs.Ending.{end-read}
use Rattle.tree.proofs.Naming.{above-nothing, above-start, reach-next, start-held}
use Rattle.tree.proofs.tree.Tree.reach.Goals as goal

pub returns-in_default : goal.returns-in_default
returns-in_default g c = end-read c.requires.up now-begin (above-nothing _ _ _ c.in_default.ensures.none)

pub name-init : goal.name-init
name-init g c = record {
  now = now-begin;
  used = start-held c.requires.rules _ c.args.path.now c.requires.directory _ c.start-number.ensures;
  rest = above-start _ _ _ _ _ _ c.start-number.ensures c.in-Some.ensures.some;
}

pub lookup-requires : goal.lookup-requires
lookup-requires g c = let i =
    c.name.invariant in record { up = now-up i.now c.requires.up; node = used-now i.now _ i.used }

pub returns-in_err-next : goal.returns-in_err-next
returns-in_err-next g c = end-lost c.name.invariant.now c.lookup.ensures c.in_err-next.was c.from_residual.ensures.1

pub name-preserved : goal.name-preserved
name-preserved g c =
    let i = c.name.invariant in
    let name = c.name.name.now in
    let found = looked i.now _ name c.lookup.ensures c.in_ok-next.was c.in-Some-2.is in
    record {
      now = now-read i.now c.lookup.ensures c.in_ok-next.was;
      used = lookup-used c.requires.rules c.name.number name c.in-Some-2.next found;
      rest = sym (reach-next _ _ name _ _ _ c.in-Some-first_name.ensures.some found) ∙ i.rest;
    }

pub returns-in_default-2 : goal.returns-in_default-2
returns-in_default-2 g c =
    let i = c.name.invariant in
    let name = c.name.name.now in
    let none = looked i.now _ name c.lookup.ensures c.in_ok-next.was c.in_default-2.is in
    end-read c.requires.up (now-read i.now c.lookup.ensures c.in_ok-next.was)
    (sym (reach-next _ _ name _ _ _ c.in-Some-first_name.ensures.some none) ∙ i.rest)

pub returns : goal.returns
returns g c =
    let i = c.name.invariant in
    end-read c.requires.up i.now
    (sym (ap (λ names. reach c.args.self.now.files c.name.number (c.name.name.now ∷ names))
    c.in_default-first_name.ensures.none) ∙ i.rest)
