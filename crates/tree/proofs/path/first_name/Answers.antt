use Rattle.tree.proofs.Common.{drop, length, sym, take, ◌-◌, ◌∙◌, take_rest}
use Rattle.tree.proofs.Unlinked.{IfNone-of}
use Rattle.tree.proofs.Naming.{cut-parts, cut-shorter, no-name}
use Rattle.tree.proofs.path.first_name.Goals as goal

pub returns-in_err-from-clause-none : goal.returns-in_err-from-clause-none
returns-in_err-from-clause-none c = IfNone-of _ (no-name _ (sym c.name_start.ensures ∙ c.in_err-from.was))

pub returns-clause-some : goal.returns-clause-some
returns-clause-some c =
    let path = c.args.path.now in
    let i = c.in_ok-from.from in
    let rest = take (length path - i) (drop i path) in
    cut-parts path rest i _ _ _ (sym c.name_start.ensures ∙ c.in_ok-from.was) (take_rest path i) c.first_slash.ensures
    c.unwrap_or-end.ensures c.min.ensures

pub returns-clause-shorter : goal.returns-clause-shorter
returns-clause-shorter c =
    let path = c.args.path.now in
    let i = c.in_ok-from.from in
    let rest = take (length path - i) (drop i path) in
    cut-shorter path rest i _ _ _ (sym c.name_start.ensures ∙ c.in_ok-from.was) (take_rest path i)
    c.first_slash.ensures c.unwrap_or-end.ensures c.min.ensures
