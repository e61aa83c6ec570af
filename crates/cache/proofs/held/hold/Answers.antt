use Rattle.cache.proofs.Common.{◌<◌, ap, arith, is_ok, length, refl, sym, with_block, ◌∙◌}
use Rattle.cache.proofs.Using.{came-held, came-in, came-shows, unheld-same}
use Rattle.cache.proofs.held.hold.Goals as goal

pub returns-clause-holds : goal.returns-clause-holds
returns-clause-holds g c =
    let room = c.make_room.ensures.holds in
    let shown = c.in_ok-make_room.ensures.holds.blocks in
    let safe = c.in_ok-make_room.ensures.safe in
    let low : c.args.n < length (g.D.BlockDev.content c.make_room.new.device) =
    omega (arith, room.count, c.requires.slot.inside) in
    let came = came-in _ _ c.args.n c.args.slot.now c.get_or_insert.result c.requires.unheld
    c.get_or_insert.follows.holds-at-none c.get_or_insert.ensures.value in
    record {
      blocks = rw c.is_ok.ensures.value
          (came-shows c.args.slot.now _ c.get_or_insert.result low safe c.requires.unheld came
          ∙ ap (λ blocks. with_block (is_ok c.get_or_insert.result) blocks c.args.n c.args.slot.now.bytes) shown);
      kept = came-held c.args.slot.now _ c.get_or_insert.result low safe c.requires.unheld came room.kept
          (record {
            inside = low;
            size = c.requires.slot.size;
            clean = λ _ clean. c.requires.slot.clean refl clean
                ∙ sym (unheld-same c.args.held.now.entries _ _ c.args.n c.requires.unheld room.count
                c.requires.slot.inside shown);
          });
      count = room.count;
      identity = room.identity;
      cause = record { later = room.cause.later; failed = λ wrong. absurd cc };
    }
