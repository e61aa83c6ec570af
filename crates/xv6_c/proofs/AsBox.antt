-- The handle and its parts own what a box at the same types owns.
use mathlib.Core.List.{[]}
use denote.Signature.{Slot, plain}
use Rattle.std.proofs.BoxSteps.Form.{Bx}
use mir.Syntax.{dnil, impl, tnil}
use Rattle.std.specs.contracts.alloc.Global as Heap
use Rattle.std.specs.contracts.impls.GlobalAllocator.TheImpl.{ghosts, dict}
use Rattle.std.proofs.alloc.Global.TheLaws as heap
use Rattle.session.specs.contracts.session.Session as Thing
use Rattle.session.proofs.session.Session.TheLaws as thing
use Rattle.xv6_c.specs.contracts.sealed.Sealed as Sealed

abbrev pub E : Bx
E = record {
  row = Thing.the_row;
  laws = thing.the_row_laws;
  al = record { row = Heap.the_row; laws = heap.the_row_laws; g = ghosts; d = dict; drops = impl [] tnil dnil };
}

abbrev pub FromSeal : Slot 0
FromSeal = plain (λ _. Sealed.the_row)
