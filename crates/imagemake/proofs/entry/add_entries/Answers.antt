use Rattle.imagemake.proofs.Common.{◌+◌, arith, length, subst, err_from_is_err_and, with_manifest_entry, AddsEntry}
use Rattle.imagemake.proofs.Common.{Refuses, entry_at, entry_of}
use Rattle.imagemake.proofs.MadeSearch.{going-more, going-root, makes-entries, refused-going}
use Rattle.imagemake.proofs.Putting.{none-done, Owns-done, Owns-told, told_err}
use Rattle.imagemake.proofs.entry.add_entries.Goals as goal

pub loop-entry-init : goal.loop-entry-init
loop-entry-init g c =
    let able = c.requires.able in
    record {
      going = going-root _ _ able.up c.requires.root able.some able.block able.empty;
      room = able.room;
      failures = omega arith;
    }

pub add_entry-requires : goal.add_entry-requires
add_entry-requires g c = record { made = c.loop-entry.invariant.going.made_so_far; room = c.loop-entry.invariant.room }

pub returns-in_err-add_entry : goal.returns-in_err-add_entry
returns-in_err-add_entry g c =
    let told = err_from_is_err_and c.from_residual.result c.from_residual.ensures.1 in
    let is = told_err _ c.from_residual.ensures.1 in
    let tree = c.loop-entry.tree in
    let made = c.loop-entry.made.items in
    let fault = c.in_err-add_entry.field-0.0 in
    record {
      made = none-done _ is;
      refused = rw (told.1, told.2)
          (refused-going _ c.loop-entry.entry-index c.entry-item.result c.loop-entry-test.true
          c.loop-entry.invariant.going fault
          (subst (λ e. Refuses (with_manifest_entry tree.block_limit (length tree.files) tree.files (length made + 2)
          (entry_of e)) fault) c.entry-item.is
          (subst (λ p. Refuses (with_manifest_entry tree.block_limit (length tree.files) tree.files (length made + 2)
          (entry_at p c.entry-item.result.thing)) fault) c.as_slice.ensures.value
          c.in_err-add_entry.ensures.refused)));
      cause = Owns-told c.loop-entry.invariant.failures c.in_err-add_entry.ensures.cause is;
    }

pub loop-entry-preserved : goal.loop-entry-preserved
loop-entry-preserved g c = record {
  going = going-more _ c.loop-entry.entry-index c.entry-item.result c.loop-entry-test.true c.loop-entry.invariant.going
      (subst (λ e. AddsEntry c.loop-entry.tree c.add_entry.new.tree c.loop-entry.made.items c.add_entry.new.made.items
      (entry_of e)) c.entry-item.is
      (subst (λ p. AddsEntry c.loop-entry.tree c.add_entry.new.tree c.loop-entry.made.items c.add_entry.new.made.items
      (entry_at p c.entry-item.result.thing)) c.as_slice.ensures.value c.in_ok-add_entry.ensures.added));
  room = c.in_ok-add_entry.ensures.room;
  failures = omega (arith, c.loop-entry.invariant.failures, c.add_entry.ensures.cause.later);
}

pub returns : goal.returns
returns g c = record {
  made = makes-entries _ c.loop-entry.entry-index (omega arith) c.loop-entry.invariant.going;
  refused = tt;
  cause = Owns-done c.loop-entry.invariant.failures;
}
