-- Lines that are read one after the other.
use Rattle.asmtext.proofs.Common.{◌≡◌, ◌∙◌, List, ap, map, sym, ℕ, Bor, map-map}
use Rattle.unixmodel.specs.Statements as the

pub read_all : (split : List (Bor (List ℕ))) (lines : List (List ℕ))
    → map (λ (line : Bor (List ℕ)). line.now) split ≡ lines
    → map (λ (line : Bor (List ℕ)). the.line_of line.now) split ≡ map the.line_of lines
read_all split lines e = sym (map-map the.line_of (λ (line : Bor (List ℕ)). line.now) split) ∙ ap (map the.line_of) e
