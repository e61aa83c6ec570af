use Rattle.std.proofs.Common.{refl}
use Rattle.files.proofs.PipesLemmas.{moved-shown, sound-moved}
use Rattle.files.proofs.table.Files.set_offset.Goals.{in-Some, in-None}
use Rattle.files.proofs.table.Files.set_offset.Goals as goal

pub invariant_of-self : goal.invariant_of-self
invariant_of-self c = elim c.match-deref_mut-id.branch [
  | in-Some w ↦ rw w.self-inside-is
      (sound-moved c.self.invariant c.deref_mut.ensures.value c.args.id c.args.offset _
      (rw (w.in-Some.is, w.move_to.ensures) refl))
  | in-None w ↦ rw w.self-inside-is
      (sound-moved c.self.invariant c.deref_mut.ensures.value c.args.id c.args.offset _ (rw w.in-None.is refl))
]

pub returns : goal.returns
returns c = elim c.match-deref_mut-id.branch [
  | in-Some w ↦ rw (w.self-inside-is, ← c.self.view_is)
      (moved-shown c.self.invariant c.deref_mut.ensures.value c.args.id c.args.offset _
      (rw (w.in-Some.is, w.move_to.ensures) refl))
  | in-None w ↦ rw (w.self-inside-is, ← c.self.view_is)
      (moved-shown c.self.invariant c.deref_mut.ensures.value c.args.id c.args.offset _ (rw w.in-None.is refl))
]
