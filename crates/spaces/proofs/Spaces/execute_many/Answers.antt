use Rattle.spaces.proofs.Common.{◌≡◌, ◌+◌, Err, refl, view_at, cycle}
use Rattle.spaces.proofs.SpacesLemmas.{advances-on, all-behind, behind-past, trap-behind}
use Rattle.spaces.proofs.Spaces.execute_many.Goals as goal

-- a store faulted: it is done, and the instructions after it
pub returns-then-is_store_fault-clause-done : goal.returns-then-is_store_fault-clause-done
returns-then-is_store_fault-clause-done g c =
    advances-on _ c.run-done.result.0 c.execute_behind-more.result.0
    (c.run-done.result.0 + c.execute_behind-more.result.0) c.args.self.now.active c.args.self.now
    c.run-done.new.self c.execute_behind-more.new.self
    refl c.run-done.ensures.active (behind-past _ (rw c.in-Some.is at c.run-done.ensures.behind))
    c.run-done.ensures.done c.execute_behind-more.ensures.done

pub returns-then-is_store_fault-clause-ends : goal.returns-then-is_store_fault-clause-ends
returns-then-is_store_fault-clause-ends g c =
    all-behind _ c.execute_behind-more.result.1 c.run-done.result.0 c.execute_behind-more.result.0 c.args.count
    c.execute_behind-more.new.self.pc c.run-done.ensures.within c.execute_behind-more.ensures.ends

pub returns-then-is_store_fault-clause-trap : goal.returns-then-is_store_fault-clause-trap
returns-then-is_store_fault-clause-trap g c =
    trap-behind c.execute_behind-more.result.1 c.run-done.result.0 c.execute_behind-more.result.0 c.args.count
    c.args.self.now.active c.run-done.new.self.active
    (λ t at. cycle c.execute_behind-more.new.self.registers c.execute_behind-more.new.self.pc
    (view_at c.execute_behind-more.new.self at).memory ≡ Err t) c.run-done.ensures.active
    c.execute_behind-more.ensures.trap

-- the next instruction traps
pub returns-clause-trap : goal.returns-clause-trap
returns-clause-trap g c = (
  rw c.in-Some.is at c.run-done.ensures.some,
  (rw c.in-Some.is at c.run-done.ensures.trap) c.if-is_store_fault.ensures,
)
