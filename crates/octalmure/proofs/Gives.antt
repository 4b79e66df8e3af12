-- Of each call some outcome is permitted: what Promise.antt, TextPromise.antt and WhyPromise.antt say of calls is not said of nothing.
-- Assumes nothing.
use Prim.Native.Nat.{ℕ}
use mathlib.Core.Path.{refl}
use mathlib.Core.List.{List, []}
use denote.Ref.{Bor, MutBor}
use Rattle.model.specs.File.{Bytes}
use Rattle.model.specs.Calls.{check_call, carry_call}
use Rattle.exchange.specs.Import.{import_call}
use Rattle.exchange.specs.Export.{export_call}
use Rattle.causes.specs.Why.{why_call}
use Rattle.octalmure.proofs.Promise.{Checks, Carries}
use Rattle.octalmure.proofs.TextPromise.{Imports, Exports}
use Rattle.octalmure.proofs.WhyPromise.{Asks}

-- a slice that is lent, by its contents
abbrev ref : List ℕ → Bor (List ℕ)
ref l = record { ref_ptr = (0, 0); now = l }

-- a slice that is lent to be written, by its contents
abbrev ref_mut : List ℕ → MutBor (List ℕ)
ref_mut l = record { ref_ptr = (0, 0); ghost_name = 0; now = l }

pub check_gives : (b a : List ℕ) → Bytes b → (r : ℕ) × (a' : List ℕ) × Checks b a r a'
check_gives b a B =
    let c = check_call b a in (
      c.returns,
      c.answer,
      record {
        of_bytes = B;
        lifetimes = ([], ([], tt));
        lent = (ref b, (ref_mut a, tt));
        back = (ref b, (ref_mut c.answer, tt));
        permitted = (refl, refl);
        file = refl;
        answer = refl;
        left = refl;
      },
    )

pub carry_gives : (b : List ℕ) (H' : ℕ) (o a : List ℕ) → Bytes b → (r : ℕ) × (o' : List ℕ) × (a' : List ℕ) × Carries b H' o a r o' a'
carry_gives b H' o a B =
    let c = carry_call b H' o a in (
      c.returns,
      c.output,
      c.answer,
      record {
        of_bytes = B;
        lifetimes = ([], ([], ([], tt)));
        lent = (ref b, (H', (ref_mut o, (ref_mut a, tt))));
        back = (ref b, (H', (ref_mut c.output, (ref_mut c.answer, tt))));
        permitted = (refl, refl, refl);
        file = refl;
        horizon = refl;
        output = refl;
        answer = refl;
        written = refl;
        left = refl;
      },
    )

pub import_gives : (b T o a : List ℕ) → Bytes b → (r : ℕ) × (o' : List ℕ) × (a' : List ℕ) × Imports b T o a r o' a'
import_gives b T o a B =
    let c = import_call b T o a in (
      c.returns,
      c.output,
      c.answer,
      record {
        of_bytes = B;
        lifetimes = ([], ([], ([], ([], tt))));
        lent = (ref b, (ref T, (ref_mut o, (ref_mut a, tt))));
        back = (ref b, (ref T, (ref_mut c.output, (ref_mut c.answer, tt))));
        permitted = (refl, refl, refl);
        file = refl;
        table = refl;
        output = refl;
        answer = refl;
        written = refl;
        left = refl;
      },
    )

pub export_gives : (b o a : List ℕ) → Bytes b → (r : ℕ) × (o' : List ℕ) × (a' : List ℕ) × Exports b o a r o' a'
export_gives b o a B =
    let c = export_call b o a in (
      c.returns,
      c.output,
      c.answer,
      record {
        of_bytes = B;
        lifetimes = ([], ([], ([], tt)));
        lent = (ref b, (ref_mut o, (ref_mut a, tt)));
        back = (ref b, (ref_mut c.output, (ref_mut c.answer, tt)));
        permitted = (refl, refl, refl);
        file = refl;
        output = refl;
        answer = refl;
        written = refl;
        left = refl;
      },
    )

pub why_gives_some : (b : List ℕ) (k : ℕ) (o a : List ℕ) → Bytes b → (r : ℕ) × (o' : List ℕ) × (a' : List ℕ) × Asks b k o a r o' a'
why_gives_some b k o a B =
    let c = why_call b k o a in (
      c.returns,
      c.output,
      c.answer,
      record {
        of_bytes = B;
        lifetimes = ([], ([], ([], tt)));
        lent = (ref b, (k, (ref_mut o, (ref_mut a, tt))));
        back = (ref b, (k, (ref_mut c.output, (ref_mut c.answer, tt))));
        permitted = (refl, refl, refl);
        file = refl;
        asked = refl;
        output = refl;
        answer = refl;
        written = refl;
        left = refl;
      },
    )
