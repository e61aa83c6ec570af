use Rattle.imagecheck.proofs.Common.{◌≡◌, sym, ◌∙◌, ℕ, arith, false, format_named, in_record}
use Rattle.imagecheck.proofs.Slotting.{holder-found, holder-lies, holder-up, number-held, number-own}
use Rattle.imagecheck.proofs.blocks.+number.Goals as goal
use Rattle.imagecheck.proofs.blocks.+number.Goals.{After-holder_of}

-- the number lies in an index block
apart : (t : ℕ) (c : After-holder_of t) → in_record (format_named c.format_of-format.result) c.args.slot ≡ false
apart t c = sym c.is_in_record.ensures ∙ c.if-is_in_record.false

pub returns-then-is_in_record : goal.returns-then-is_in_record
returns-then-is_in_record t c =
    number-own _ _ c.args.slot c.format_of-format.ensures (sym c.is_in_record.ensures ∙ c.if-is_in_record.true)
    c.address_of.ensures.place c.own_number.ensures

pub number-block-requires : goal.number-block-requires
number-block-requires t c =
    let image = c.args.image.now in
    let a = apart t ((goal.at.number-block-requires t c).After-holder_of) in (
      omega (
        arith,
        holder-up image c.args.n c.args.slot c.format_of-format.ensures a c.holder_of.ensures
            c.requires.found,
        c.decreases,
      ),
      (
        c.requires.inode,
        holder-found image c.args.n c.args.slot c.format_of-format.ensures a c.holder_of.ensures
            c.requires.found,
      ),
    )

pub index_number-requires-clause-block : goal.index_number-requires-clause-block
index_number-requires-clause-block t c =
    holder-lies c.args.image.now c.args.n c.args.slot c.format_of-format.ensures
    (apart t ((goal.at.index_number-requires-clause-block t c).After-holder_of)) c.holder_of.ensures
    c.requires.found c.number-block.ensures

pub returns : goal.returns
returns t c =
    number-held c.args.image.now c.args.n c.args.slot c.format_of-format.ensures
    (apart t ((goal.at.returns t c).After-holder_of)) c.holder_of.ensures c.number-block.ensures
    c.place_of.ensures.place c.index_number.ensures
