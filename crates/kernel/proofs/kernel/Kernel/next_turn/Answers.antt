use Rattle.kernel.proofs.Common.{false, refl, rules, ap, sym, ◌∙◌, ◌≡◌, Kernel, base, rest_of, seen, kernel_of}
use Rattle.kernel.proofs.Common.{awaited_of, with_table, ready, turn}
use Rattle.kernel.proofs.Readies.{ready-same, turn-idle, turn-from_pick}
use Rattle.kernel.proofs.Asleep.{asleep-unready}
use Rattle.kernel.proofs.kernel.Kernel.next_turn.Goals as goal

pub next_ready-requires-clause-awake : goal.next_ready-requires-clause-awake
next_ready-requires-clause-awake g c i out =
    let k = kernel_of c.self.inside in
    let unready : false ≡ ready (seen (awaited_of k) _) i =
    sym (asleep-unready (awaited_of k) _ i (c.self.invariant.watched.asleep i out)) in
    record { shown = record { ref_ptr = (0, 0); now = k.table.places }; shows = refl; says = record { met = unready } }

pub returns : goal.returns
returns g c =
    let k = kernel_of c.self.inside in
    turn-from_pick _ _ (base (rest_of k)) k.table _ _ c.next_ready.ensures.first
    (λ shown i b r. (search rules)
    ∙ sym (ready-same (rest_of k) (record k.table { places = shown.now }) k.spaces.places i))
    ∙ ap (λ (x : Kernel). turn (with_table (base (rest_of x)) x.table x.spaces.places)) c.self.view_is
    ∙ turn-idle c.args.self.now c.requires
