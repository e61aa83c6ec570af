use Rattle.std.proofs.Common.{arith, refl}
use Rattle.ram.specs.Memory.{word_bytes}
use Rattle.ram.proofs.MemoryLemmas.{length-put}
use Rattle.frames.proofs.FreeLemmas.{count-le, free_of-give, IsFreeList-give, SameBut-put}
use Rattle.frames.proofs.Frames.push.Goals as goal

pub overflow_add-self : goal.overflow_add-self
overflow_add-self c = omega (arith, count-le c.requires.valid)

pub returns-clause-free : goal.returns-clause-free
returns-clause-free c = rw c.store_u32.ensures
    (free_of-give c.args.ram.now c.args.self.now _ c.args.frame.0 c.frames_are_whole.ensures.memory c.requires.inside
    (omega arith) c.requires.held refl refl)

pub returns-clause-valid : goal.returns-clause-valid
returns-clause-valid c =
    (IsFreeList-give c.args.ram.now c.store_u32.new.self c.args.self.now _ c.args.frame.0 c.requires.valid
    (rw c.store_u32.ensures (length-put c.args.ram.now c.args.frame.0 0 (word_bytes 4 c.args.self.now.first.0)))
    c.requires.inside c.requires.held (returns-clause-free c) refl refl c.requires.last).0

pub returns-clause-extra : goal.returns-clause-extra
returns-clause-extra c =
    (IsFreeList-give c.args.ram.now c.store_u32.new.self c.args.self.now _ c.args.frame.0 c.requires.valid
    (rw c.store_u32.ensures (length-put c.args.ram.now c.args.frame.0 0 (word_bytes 4 c.args.self.now.first.0)))
    c.requires.inside c.requires.held (returns-clause-free c) refl refl c.requires.last).1

pub returns-clause-others : goal.returns-clause-others
returns-clause-others c =
    rw c.store_u32.ensures (SameBut-put c.args.ram.now c.args.frame.0 0 (word_bytes 4 c.args.self.now.first.0))
