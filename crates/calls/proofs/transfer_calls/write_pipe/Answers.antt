use Rattle.calls.proofs.Common.{ap, arith, sym, ℕ, ◌-◌, ◌∙◌, ◌≡◌}
use Rattle.calls.proofs.Sends.{sends-closed, sends-fits, sends-on, sends-over, sends-readable, sends-within}
use Rattle.calls.proofs.Transfers.{transfer-stands}
use Rattle.calls.proofs.transfer_calls.write_pipe.Goals as goal

left : {m n l : ℕ} (d : ℕ) → m ≡ n → n ≡ l → m - d ≡ l - d
left d e f = ap (λ (x : ℕ). x - d) (e ∙ f)

pub returns-then-not-has_end : goal.returns-then-not-has_end
returns-then-not-has_end g c = sends-closed c.requires.1 c.has_end.ensures c.if-not-has_end.true

pub overflow_add-address : goal.overflow_add-address
overflow_add-address g c = let fits =
    sends-fits c.requires.1 c.pages_are_whole.ensures.sized (left c.args.pending.done c.from.ensures c.low.ensures)
    c.pages_are_whole.ensures.few in omega (arith, fits)

pub write_pipe-sent-requires-clause-pipe : goal.write_pipe-sent-requires-clause-pipe
write_pipe-sent-requires-clause-pipe g c = transfer-stands c.requires.1

pub write_pipe-sent-requires-clause-readable : goal.write_pipe-sent-requires-clause-readable
write_pipe-sent-requires-clause-readable g c =
    sends-readable c.requires.1 c.pages_are_whole.ensures.sized (left c.args.pending.done c.from.ensures c.low.ensures)

pub overflow_add-done : goal.overflow_add-done
overflow_add-done g c = let within =
    sends-within c.requires.1 c.pages_are_whole.ensures.sized (left c.args.pending.done c.from.ensures c.low.ensures)
    c.write_pipe-sent.ensures.count in omega (arith, within)

pub returns-then-done-from : goal.returns-then-done-from
returns-then-done-from g c =
    sends-over c.requires.1 c.pages_are_whole.ensures.sized (left c.args.pending.done c.from.ensures c.low.ensures)
    c.write_pipe-sent.ensures.count c.has_end.ensures c.if-not-has_end.false c.write_pipe-sent.ensures.sent
    c.is_sound.ensures.sound (c.if-done-from.true ∙ c.from-2.ensures ∙ c.low-2.ensures)

pub returns : goal.returns
returns g c = sends-on c.requires.1 c.pages_are_whole.ensures.sized
    (left c.args.pending.done c.from.ensures c.low.ensures) c.write_pipe-sent.ensures.count c.has_end.ensures
    c.if-not-has_end.false c.write_pipe-sent.ensures.sent c.is_sound.ensures.sound
    (λ same. c.if-done-from.false (same ∙ sym (c.from-2.ensures ∙ c.low-2.ensures)))
