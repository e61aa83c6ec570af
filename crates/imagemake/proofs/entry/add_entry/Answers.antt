use Rattle.imagemake.proofs.Common.{◌≡◌, ◌+◌, ap, arith, length, refl, ◌∙◌, length_push}
use Rattle.imagemake.proofs.Common.{err_from_is_err_and, thing_of, le-leb}
use Rattle.imagemake.proofs.MadeSearch.{AddsEntry-stored, CanAdd-next, made-few, refused-stored}
use Rattle.imagemake.proofs.MadePaths.{entry-spot}
use Rattle.imagemake.proofs.Putting.{Owns-done, Owns-other, Blames-stored, none-done, told_err}
use Rattle.imagemake.proofs.Things.{folder-thing}
use Rattle.imagemake.proofs.entry.add_entry.Goals as goal

pub is_whole-requires : goal.is_whole-requires
is_whole-requires g c = c.requires.made.up

pub locate-requires : goal.locate-requires
locate-requires g c = made-few c.is_whole.ensures c.requires.made

pub overflow_add-number : goal.overflow_add-number
overflow_add-number g c =
    record { fits = omega (arith, c.len-number.ensures, made-few c.is_whole.ensures c.requires.made) }

pub numbers-requires : goal.numbers-requires
numbers-requires g c = c.requires.made.up

pub returns-in_err-spot : goal.returns-in_err-spot
returns-in_err-spot g c =
    let t = c.args.tree.now in
    let made = c.args.made.now.items in
    let err = err_from_is_err_and c.from_residual.result c.from_residual.ensures.1 in
    let told = told_err c.from_residual.result c.from_residual.ensures.1 in
    record {
      added = none-done _ told;
      room = none-done _ told;
      refused = rw (err.1, err.2)
          (c.in_err-spot.ensures.refused t.block_limit (length t.files) t.files (length made + 2)
          (thing_of c.args.thing.now) c.requires.made.listed);
      cause = Owns-other (omega arith) c.in_err-spot.ensures.memory told;
    }

pub returns-then-number-numbers-clause-refused : goal.returns-then-number-numbers-clause-refused
returns-then-number-numbers-clause-refused g c =
    let t = c.args.tree.now in
    let made = c.args.made.now.items in
    let thing = thing_of c.args.thing.now in
    entry-spot c.in_ok-spot.ensures.spot t.block_limit (length t.files) t.files (length made + 2) thing
    c.requires.made.listed
    ∙ rw (le-leb (length t.files) (length made + 2)
    (omega (arith, c.if-number-numbers.true, c.len-number.ensures, c.numbers.ensures))) refl

pub returns-then-number-numbers-clause-cause : goal.returns-then-number-numbers-clause-cause
returns-then-number-numbers-clause-cause g c = Owns-other (omega arith) (λ e. cc) refl

pub store_entry-requires : goal.store_entry-requires
store_entry-requires g c = record {
  up = c.requires.made.up;
  able = CanAdd-next c.is_whole.ensures c.requires.made c.in_ok-spot.ensures.spot
      (omega (arith, c.if-number-numbers.false, c.len-number.ensures, c.numbers.ensures))
      (ap (λ k. k + 2) c.len-number.ensures);
}

pub returns-in_err-store_entry : goal.returns-in_err-store_entry
returns-in_err-store_entry g c =
    let err = err_from_is_err_and c.from_residual-in_err-store_entry.result
    c.from_residual-in_err-store_entry.ensures.1 in
    let told = told_err c.from_residual-in_err-store_entry.result c.from_residual-in_err-store_entry.ensures.1 in
    record {
      added = none-done _ told;
      room = none-done _ told;
      refused = rw (err.1, err.2)
          (refused-stored c.is_whole.ensures c.requires.made c.in_ok-spot.ensures.spot
          (omega (arith, c.if-number-numbers.false, c.len-number.ensures, c.numbers.ensures))
          (ap (λ k. k + 2) c.len-number.ensures)
          (thing_of c.args.thing.now) c.in_err-store_entry.ensures refl
          c.in_err-store_entry.field-0.0 refl);
      cause = Blames-stored c.in_err-store_entry.field-0.0 (omega arith) c.in_err-store_entry.ensures.owns told;
    }

pub push-requires : goal.push-requires
push-requires g c = record {
  absent = c.in_ok-spot.ensures.spot.absent;
  leads = c.in_ok-spot.ensures.leads;
  room = omega (arith, c.requires.room, c.if-number-numbers.false, c.len-number.ensures, c.numbers.ensures);
}

pub returns : goal.returns
returns g c =
    let longer : length c.push.new.self.items ≡ length c.args.made.now.items + 1 = ap length c.push.ensures.items
    ∙ length_push _ _ in
    let adds = AddsEntry-stored c.is_whole.ensures c.requires.made c.in_ok-spot.ensures.spot
    (omega (arith, c.if-number-numbers.false, c.len-number.ensures, c.numbers.ensures))
    (ap (λ k. k + 2) c.len-number.ensures)
    (thing_of _) c.in_ok-store_entry.ensures refl refl c.push.ensures.items
    (c.is_directory.ensures ∙ folder-thing _ c.in_ok-spot.spot.directory _) in
    record {
      added = adds;
      room = omega (arith, c.requires.room, c.push.ensures.room, longer, adds.long);
      refused = tt;
      cause = Owns-done c.in_ok-store_entry.ensures.owns.later;
    }
