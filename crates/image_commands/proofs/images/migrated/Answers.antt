use Rattle.std.proofs.Common.{◌%◌, ap, arith, Err, is_err, length, subst, sym, ◌∙◌, ◌≡◌}
use Rattle.std.proofs.lemmas.Result.{IfOk-from_err}
use Rattle.unixmodel.specs.Image.{Denotes, named_blocks, numbers_in_use}
use Rattle.migrate.specs.Copies.{image_fault}
use Rattle.image_commands.proofs.Migrated.{disk-bytes, kept-bytes, only-memory, told_fault}
use Rattle.image_commands.proofs.images.migrated.Goals as goal

pub unreachable-requires : goal.unreachable-requires
unreachable-requires c =
    let source = c.in_ok-new.ensures.source in
    let long = (c.in_ok-new.ensures.migrated source.0 source.1).super.whole in
    c.new.ensures.length.0 (ap is_err c.in_default.is) (omega (arith, long, c.in_ok-new.new.ok.0))

pub returns-in_err-new : goal.returns-in_err-new
returns-in_err-new c =
    let r = c.from_residual.result in
    let fault = c.in_err-new.field-0.0 in
    let told = told_fault r fault c.from_residual.ensures.1 in
    record {
      image = IfOk-from_err r _ c.from_residual.ensures.0;
      source = IfOk-from_err r _ c.from_residual.ensures.0;
      inodes = IfOk-from_err r _ c.from_residual.ensures.0;
      blocks = IfOk-from_err r _ c.from_residual.ensures.0;
      refused = λ f is. (c.in_err-new.ensures.image f (ap Err (cc (sym told ∙ is)))).0;
      full = λ is. c.in_err-new.ensures.blocks (ap Err (cc (sym told ∙ is)));
    }

pub returns-in_err-summary : goal.returns-in_err-summary
returns-in_err-summary c =
    let source = c.in_ok-new.ensures.source in
    let denotes = c.in_ok-new.ensures.migrated source.0 source.1 in
    let long = denotes.super.whole in
    let new = c.in_ok-new.new.items in
    let whole : length new % 1024 ≡ 0 = omega arith in
    let same = disk-bytes new c.in-Ok.disk.bytes whole c.in-Ok.ensures.bytes in
    let r = c.from_residual-in_err-summary.result in
    let fault = c.in_err-summary.field-0.0 in
    let only = only-memory fault
    (λ own. c.in_err-summary.ensures.refused own source.0 (subst (λ b. Denotes b source.0) (sym same) denotes))
    (λ device. let rises = c.in_err-summary.ensures.failed (ap Err device) in absurd (omega arith)) in
    let told = told_fault r (image_fault fault) c.from_residual-in_err-summary.ensures.1
    ∙ ap (λ f. Err (image_fault f)) only in
    record {
      image = IfOk-from_err r _ c.from_residual-in_err-summary.ensures.0;
      source = IfOk-from_err r _ c.from_residual-in_err-summary.ensures.0;
      inodes = IfOk-from_err r _ c.from_residual-in_err-summary.ensures.0;
      blocks = IfOk-from_err r _ c.from_residual-in_err-summary.ensures.0;
      refused = λ f is. absurd (cc (sym told ∙ is));
      full = λ is. absurd (cc (sym told ∙ is));
    }

pub returns : goal.returns
returns c =
    let source = c.in_ok-new.ensures.source in
    let long = (c.in_ok-new.ensures.migrated source.0 source.1).super.whole in
    let new = c.in_ok-new.new.items in
    let made = c.into_bytes.result.items in
    let whole : length new % 1024 ≡ 0 = omega arith in
    let same = disk-bytes new c.in-Ok.disk.bytes whole c.in-Ok.ensures.bytes in
    let kept = kept-bytes c.in-Ok.disk.bytes c.check.new.device.bytes made c.in_ok-summary.ensures.same
    c.into_bytes.ensures.bytes (omega (arith, c.into_bytes.ensures.whole, c.into_bytes.result.ok.0)) in
    record {
      image = λ files e. subst (λ b. Denotes b files) (sym (kept ∙ same)) (c.in_ok-new.ensures.migrated files e);
      source = source;
      inodes = c.in_ok-summary.ensures.inodes ∙ ap (λ b. length (numbers_in_use b)) (sym kept);
      blocks = c.in_ok-summary.ensures.blocks ∙ ap (λ b. length (named_blocks b)) (sym kept);
      refused = λ f is. absurd cc;
      full = λ is. absurd cc;
    }
