use Rattle.imagecheck.proofs.Common.{◌≡◌, ◌≤◌, take, image_of}
use Rattle.imagecheck.proofs.load.read_blocks.Given as goal

abbrev pub invariant-loop-n : goal.invariant-loop-n
invariant-loop-n g l = record {
  bytes : l.image.items ≡ image_of (take l.n (g.D.BlockDev.content l.initial.device));
  same : g.D.BlockDev.content l.device ≡ g.D.BlockDev.content l.initial.device;
  identity : g.D.BlockDev.identity l.device ≡ g.D.BlockDev.identity l.initial.device;
  later : g.D.BlockDev.failures l.initial.device ≤ g.D.BlockDev.failures l.device;
}
