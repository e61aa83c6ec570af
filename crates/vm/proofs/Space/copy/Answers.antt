use Rattle.vm.proofs.Common.{ap, arith, refl, rules, sym, ◌∙◌, frames_for}
use Rattle.vm.proofs.Added.{ok-unless_err}
use Rattle.vm.proofs.Forked.{forked, part-room, part-start}
use Rattle.vm.proofs.Space.copy.Goals as goal

pub unwrap-child-requires : goal.unwrap-child-requires
unwrap-child-requires c = ok-unless_err _ (λ e err. search rules)

pub share_pages-requires : goal.share_pages-requires
share_pages-requires c =
    let made = rw c.unwrap-child.ensures at c.new.ensures.made in
    let none = made.size in
    let space = rw none at made.space in
    let trades = rw none at made.trades in
    record {
      part = part-start c.args.self.now c.unwrap-child.result c.requires space trades;
      room = part-room c.args.self.now c.unwrap-child.result c.requires space trades
          (omega (arith, c.free.ensures c.args.memory.now.ram, c.frames_for.ensures, ap frames_for c.pages_in.ensures));
    }

pub returns : goal.returns
returns c =
    let made = rw c.unwrap-child.ensures at c.new.ensures.made in
    let f = forked c.args.self.now c.unwrap-child.result c.requires (rw made.size at made.space)
    (rw made.size at made.trades) c.share_pages.new.memory.ram _ c.share_pages.ensures.all in
    record {
      copies = record {
        source = f.parent;
        marked = f.kept;
        kept = f.registers;
        frames = λ p h. sym (c.share_pages.ensures.all.part.shared p h) ∙ f.shared p h;
        space = f.child;
        size = refl;
        pages = f.pages;
        registers = c.share_pages.ensures.all.trap ∙ made.registers;
        shared = f.shared;
        holders = f.holders;
        trades = f.trades;
      };
      full = (
        search rules,
        λ less. absurd
            (omega (
              arith,
              less,
              c.free.ensures c.args.memory.now.ram,
              c.frames_for.ensures,
              ap frames_for c.pages_in.ensures,
            )),
      );
      only = tt;
      unchanged = tt;
    }
