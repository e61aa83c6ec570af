use Rattle.sv39.proofs.lookaside.TlbTranslate.TheImpl.Goals as goal

pub translate-tells : goal.translate-tells
translate-tells g d c = record
    { answer = c.ensures.answer; inside = c.ensures.inside c.requires; kept = c.ensures.kept }
