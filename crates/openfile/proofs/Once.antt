-- Two results that a contract permits are the same: of the functions of this crate. Assumes nothing.
use Prim.Native.Nat.{ℕ}
use mathlib.Core.Path.{◌≡◌, refl, sym, ◌∙◌, ap}
use mathlib.Core.Bool.{true, false, true≢false}
use mathlib.Core.HLevel.{is_prop→PathP}
use mathlib.Core.List.{List}
use denote.Ref.{Bor}
use Rattle.std.specs.Prelude.{Result, Ok, Err}
use Rattle.std.proofs.Props.{props}
use Rattle.base.proofs.Once.{Once}
use Rattle.model.specs.declared.refusal.Refusal.{Refusal}
use Rattle.model.specs.Answers.{refusal_numbers}
use Rattle.model.specs.File.{Read, whole, refused, read}
use Rattle.model.specs.Model.{Run}
use Rattle.openfile.specs.declared.head.Head.{Head}
use Rattle.openfile.specs.declared.told.OpenFile.{OpenFile}
use Rattle.openfile.specs.Head.{Tells, head_of, opened_of, run_in}
use Rattle.openfile.specs.RunTold.{OpensRun}
use Rattle.model.proofs.Once.{numbered_once}
use Rattle.openfile.proofs.Tallied.{tallied_once}
use Rattle.openfile.proofs.judge.open_file.Reads as open_file
use Rattle.openfile.proofs.opening.opened.Reads as opened
use Rattle.openfile.proofs.tally.tally_tasks.Reads as tally_tasks

pub open_file_once : Once open_file.Pre open_file.Post (λ r exit. r)
open_file_once κs args _ r r' exit exit' p q = numbered_once r r' _ p q

pub tally_tasks_once : Once tally_tasks.Pre tally_tasks.Post (λ r exit. r)
tally_tasks_once κs args _ r r' exit exit' p q = tallied_once p q

-- a file opened
same_open : {o o' : OpenFile} → o.file ≡ o'.file → o ≡ o'
same_open {o} {o'} p =
    let h : o.head ≡ o'.head = o.tells.head ∙ ap (λ f. head_of (run_in f.now)) p ∙ sym o'.tells.head in
    λ κ. record {
      file = p κ;
      head = h κ;
      tells = is_prop→PathP (λ j. Tells (p j).now (h j) (run_in (p j).now)) (λ j. hlevel props) o.tells o'.tells κ;
    }

told≢refused : {ρ : Run} {ν i : ℕ} → ¬ (whole ρ ≡ refused ν i)
told≢refused {ρ} {ν} {i} e = let z : true ≡ false = cc in true≢false z

same_refusal : {e e' : Refusal}
    → ◌≡◌ {A = Read} (refused (refusal_numbers e).0 (refusal_numbers e).1) (refused (refusal_numbers e').0 (refusal_numbers e').1) → e ≡ e'
unfolding opened_of
same_refusal {e} {e'} z = let w : ◌≡◌ {A = Result Head Refusal} (Err e) (Err e') = numbered_once (Err e) (Err e') _ (ap opened_of z) refl in cc

pub opens_run_once : (file : Bor (List ℕ)) (r r' : Result OpenFile Refusal) → OpensRun file r → OpensRun file r' → r ≡ r'
opens_run_once file (Ok o) (Ok o') p q = ap Ok (same_open (p ∙ sym q))
opens_run_once file (Ok o) (Err e) p q = absurd (told≢refused (sym o.tells.reads ∙ ap (λ f. read f.now) p ∙ q))
opens_run_once file (Err e) (Ok o) p q = absurd (told≢refused (sym o.tells.reads ∙ ap (λ f. read f.now) q ∙ p))
opens_run_once file (Err e) (Err e') p q = ap Err (same_refusal (sym p ∙ q))

pub opened_once : Once opened.Pre opened.Post (λ r exit. r)
opened_once κs args _ r r' exit exit' p q = opens_run_once _ r r' p q
