use Rattle.pipe.proofs.Common.{◌++◌, ◌≡◌, ap, arith, drop, length, length-take, refl, take, frame_of, length-ring}
use Rattle.pipe.proofs.Steps.{read-bytes, read-nothing, read-rest, ring-none}
use Rattle.pipe.proofs.Pipe.read_some.Goals as goal
use Rattle.pipe.proofs.Pipe.read_some.Goals.{else-self-eq0-via-then-self-eq0+else-self, else-self-eq0-via-else-self-eq0}

pub returns-then-self : goal.returns-then-self
returns-then-self c =
    let s = c.self.inside in
    rw (← c.self.view_is) (record {
      waits = (λ _. (ring-none _ _ s.held c.if-self-eq0.true, c.if-self.true), λ _. refl);
      unchanged = (refl, refl);
      taken = tt;
      count = tt;
      rest = read-nothing _ _ _ c.if-self-eq0.true;
      stays = record { frame = refl; read_open = refl; write_open = refl };
    })

pub returns : goal.returns
returns c =
    let s = c.self.inside in
    let len : length (take c.min-count.result c.args.buffer.now) ≡ c.min-count.result =
    omega (arith, c.min-count.ensures, length-take c.min-count.result c.args.buffer.now) in
    rw (← c.self.view_is) (record {
      waits = (
        λ e. cc,
        λ p. elim c.else-self-eq0.branch [
          | else-self-eq0-via-then-self-eq0+else-self w ↦ cc
          | else-self-eq0-via-else-self-eq0 w ↦ absurd
              (w.if-self-eq0.false (omega
              (arith, ap length p.0, length-ring 512 (frame_of c.args.ram.now s.frame.0) s.from s.held)))
        ],
      );
      unchanged = tt;
      taken = rw (c.copy_out.ensures, c.frame.ensures, len)
          (ap (λ l. l ++ drop c.min-count.result c.args.buffer.now) (read-bytes _ _ _ _ c.min-count.ensures));
      count = rw length-ring c.min-count.ensures;
      rest = read-rest _ _ _ _ c.min-count.ensures;
      stays = record { frame = refl; read_open = refl; write_open = refl };
    })
