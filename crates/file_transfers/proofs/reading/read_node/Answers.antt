use Rattle.file_transfers.proofs.Common.{◌≡◌, Ok, rules, subst, sym, true, IsRead, with_read, Serves}
use Rattle.file_transfers.proofs.Common.{can_write, view_at}
use Rattle.file_transfers.proofs.Pieces.{front-long, none-read}
use Rattle.file_transfers.proofs.reading.read_node.Goals as goal

pub read_piece-requires : goal.read_piece-requires
read_piece-requires g c = record {
  up = c.requires.up;
  node = c.requires.node;
  space = c.requires.space;
  writable = subst (λ n. can_write (view_at c.args.spaces.now c.args.at).memory c.args.address n ≡ true)
      (sym (front-long c.if-count.false)) c.requires.writable;
}

pub returns-in_err-got : goal.returns-in_err-got
returns-in_err-got g c = record {
  serves = search rules;
  written = search rules;
  failed = none-read c.from_residual.result c.args.at c.args.address c.args.tree.now.files c.args.number c.args.offset
      c.args.count c.requires.space c.in_err-got.ensures.failed;
}

pub returns : goal.returns
returns g c = record {
  serves = subst (λ n. Serves c.args.tree.now c.read_piece.new.tree (Ok c.in_ok-got.got)
      (IsRead c.args.tree.now c.read_piece.new.tree c.args.number c.args.offset n)) (front-long c.if-count.false)
      c.in_ok-got.ensures.serves;
  written = subst (λ n. c.read_piece.new.spaces
      ≡ with_read c.args.spaces.now c.args.at c.args.address c.args.tree.now.files c.args.number c.args.offset n)
      (front-long c.if-count.false) c.in_ok-got.ensures.written;
  failed = tt;
}
