-- Loops that go through a list, one item further.
use Rattle.asmtext.proofs.Common.{◌≡◌, ◌∙◌, ◌<◌, ◌+◌, ◌++◌, ℕ, List, Option, None, Some, [], ◌∷◌, ap, ap₂, add-one}
use Rattle.asmtext.proofs.Common.{append_assoc, drop, drop-cons, get_or, length, map, option_map, refl, sym, take}
use Rattle.asmtext.proofs.Common.{map_more, map_push}
use Rattle.std.proofs.Math.Path.{fun_ext}
use Rattle.unixmodel.specs.Operands as the
use Rattle.unixmodel.specs.Tokens.{Symbol}
use Rattle.unixmodel.specs.Tokens.Symbol.{Plain}

-- what is seen of the items so far, and of one more
pub seen_more : {X Y Z : Type 0} (f : X → Z) (g : Y → Z) (done new : List X) (x : X) (ys : List Y) (i : ℕ) (d : Y)
    → map f done ≡ map g (take i ys) → new ≡ done ++ x ∷ [] → i < length ys → f x ≡ g (get_or ys i d)
    → map f new ≡ map g (take (i + 1) ys)
seen_more f g done new x ys i d before pushed less same =
    ap (map f) pushed ∙ map_push f done x ∙ ap (λ zs. zs ++ f x ∷ []) before
    ∙ ap (λ z. map g (take i ys) ++ z ∷ []) same ∙ sym (map_more g ys i d less)

option_map_twice : {X Y Z : Type 0} (f : X → Y) (g : Y → Z) (o : Option X)
    → option_map g (option_map f o) ≡ option_map (λ x. g (f x)) o
option_map_twice f g None = refl
option_map_twice f g (Some x) = refl

-- the characters of a part: those so far and one more, and then those of the rest
pub characters_more : {X : Type 0} (seen : X → Symbol) (part : List X) (i : ℕ) (x : X) (c : ℕ) (all : Option (List ℕ))
    (done new : List ℕ) → all ≡ option_map (λ rest. done ++ rest) (the.characters (map seen (drop i part)))
    → new ≡ done ++ c ∷ [] → i < length part → x ≡ get_or part i x → seen x ≡ Plain c
    → all ≡ option_map (λ rest. new ++ rest) (the.characters (map seen (drop (i + 1) part)))
characters_more seen part i x c all done new before pushed less at plain =
    let rest : List Symbol = map seen (drop (i + 1) part) in
    let cut : drop i part ≡ x ∷ drop (i + 1) part = drop-cons part i x less
    ∙ ap₂ (λ y n. y ∷ drop n part) (sym at) (sym (add-one i)) in
    before
    ∙ ap (λ p. option_map (λ r. done ++ r) (the.characters (map seen p))) cut
    ∙ ap (λ s. option_map (λ r. done ++ r) (the.characters (s ∷ rest))) plain
    ∙ option_map_twice (λ cs. c ∷ cs) (λ r. done ++ r) (the.characters rest)
    ∙ ap (λ f. option_map f (the.characters rest)) (fun_ext (λ r. sym (append_assoc done (c ∷ []) r)))
    ∙ ap (λ t. option_map (λ r. t ++ r) (the.characters rest)) (sym pushed)
