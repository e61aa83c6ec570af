-- What a descriptor names.
use Rattle.std.specs.Prelude.{None, Option, Some, false, option_and_then, option_map}
use Rattle.std.proofs.lemmas.Option.{none-some, same_Some}
use Rattle.std.proofs.Common.{ap, List, refl, subst, sym, ℕ, ◌∙◌, ◌≡◌}
use Rattle.kernel.specs.Shows.{descriptors_on}
use Rattle.machine.specs.Holdings.{IsOfKind, file_told, holdings_of}
use Rattle.machine.specs.View.{View}
use Rattle.machine.specs.declared.holdings.Holdings.{Holdings}
use Rattle.machine.specs.declared.holdings.Opened.{Opened}
use Rattle.session.specs.Held.{IsOpen, ShowsDescriptor, file_named, open_file, opened_told}
use Rattle.session.specs.declared.held.OpenedTold.{OpenedTold}
use Rattle.unixmodel.specs.Files.{slot}
use Rattle.unixmodel.specs.Process.{Process}
use Rattle.unixmodel.specs.Shown.{shown_process}

pub shows-none : (m : View) (pid d : ℕ) (told : Option OpenedTold) → told ≡ None → open_file m.state pid d ≡ None
    → ShowsDescriptor m pid d told
shows-none m pid d told is none = subst (ShowsDescriptor m pid d) (sym is) none

-- no process, no descriptor
unheld : (d : ℕ) (o : Option Process) → None ≡ option_map holdings_of o
    → option_and_then (λ (p : Process). slot p.descriptors d) o ≡ None
unheld d None h = refl
unheld d (Some p) h = absurd (none-some (holdings_of p) h)

held : (d : ℕ) (o : Option Process) (h : Holdings) (file : Option ℕ) → Some h ≡ option_map holdings_of o
    → file ≡ slot h.descriptors d → option_and_then (λ (p : Process). slot p.descriptors d) o ≡ file
held d None h file is named = absurd (none-some h (sym is))
held d (Some p) h file is named = sym (named ∙ ap (λ (x : Holdings). slot x.descriptors d)
    (same_Some h (holdings_of p) is))

module _ (m : View) (pid d : ℕ) where
  pub no-process : None ≡ option_map holdings_of (shown_process m.state pid) → open_file m.state pid d ≡ None
  no-process none = ap (option_and_then (slot m.state.opens)) (unheld d (shown_process m.state pid) none)

  pub named : (h : Holdings) (file : Option ℕ) → Some h ≡ option_map holdings_of (shown_process m.state pid)
      → file ≡ slot h.descriptors d → file_named m.state pid d ≡ file
  named = held d (shown_process m.state pid)

  pub no-file : (h : Holdings) → Some h ≡ option_map holdings_of (shown_process m.state pid)
      → None ≡ slot h.descriptors d → open_file m.state pid d ≡ None
  no-file h is none = ap (option_and_then (slot m.state.opens)) (named h None is none)

  pub not-open : (h : Holdings) (file n : ℕ) → Some h ≡ option_map holdings_of (shown_process m.state pid)
      → Some file ≡ slot h.descriptors d → n ≡ file → None ≡ slot m.state.opens n → open_file m.state pid d ≡ None
  not-open h file n is at same none =
      ap (option_and_then (slot m.state.opens)) (named h (Some file) is at)
      ∙ subst (λ k. slot m.state.opens k ≡ None) same (sym none)

-- the numbers of an open file
pub is-open : (m : View) (file n : ℕ) (o : Opened) (told : OpenedTold) → n ≡ file
    → Some (file_told o) ≡ slot m.state.opens n → o.descriptors ≡ descriptors_on m.state n → (m.failed ≡ false
    → IsOfKind m.state.files o.on)
    → told ≡ opened_told file o → IsOpen m file told
is-open m file n o told same is count kind numbers = record {
  opened = o;
  numbers = numbers;
  opens = subst (λ k. slot m.state.opens k ≡ Some (file_told o)) same (sym is);
  count = subst (λ k. o.descriptors ≡ descriptors_on m.state k) same count;
  kind = kind;
}
