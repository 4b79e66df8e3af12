-- What Octalmure promises of the question why a block began when it did: request 4, of what octalmure_why returns and leaves. Every statement
-- is over the call's own contract, as in Promise.antt; the words are those of crates/causes/specs. Assumes nothing.
use Prim.Native.Nat.{ℕ, suc, ◌+◌, ◌*◌, ◌≤◌, ◌<◌}
use mathlib.Core.Path.{◌≡◌, refl, sym, ◌∙◌, ap}
use mathlib.Core.Logic.{◌↔◌}
use mathlib.Core.List.{List}
use native.Mathlib.Omega.{arith}
use native.Mathlib.Decide.{dec_lt}
use lib.ListN.{length, get_or, drop, get_or-eq_default}
use contract.Lifetimes.{Lfts}
use denote.Triple.Clauses.{AtExit}
use borrow.Fn.Kinds.{Dens, ended_of}
use Rattle.model.specs.Model.{Run, WithinLimits, IsRecord, rec, lengths}
use Rattle.model.specs.Rules.{Obeys}
use Rattle.model.specs.Answers.{Outcome, refusal, refused_with}
use Rattle.model.specs.File.{Bytes, FourBytes, whole, read, num, bytes_of}
use Rattle.model.specs.Calls.{answer_size, five_in}
use Rattle.model.proofs.FiveFit.{FiveFit, output_told}
use Rattle.model.proofs.Reading.{read_limits}
use Rattle.model.proofs.RoundTrip.{num_at}
use Rattle.causes.specs.Cause.{AtRelease, Cause, Chain, first_job}
use Rattle.causes.specs.Why.{chain_out, why, WhySays, why_call, chain_bytes, WhyRow}
use Rattle.causes.proofs.ChainCloses.{begins_with, each_link, first_at_release, closes, chain_once, all_records, starts_fall, none_twice, no_longer, adds_up}
use Rattle.causes.proofs.WhyAnswers.{why_says, why_comes, every_why_answered, why_fits}
use Rattle.octalmure.proofs.GivenOrKept.{met_short, answered, keeps, told_exactly, code_told, writes}
use Rattle.octalmure.proofs.why.octalmure_why.Kinds as why_kinds
use Rattle.octalmure.proofs.why.octalmure_why.Reads as why_contract

-- A call of why: lent a file b, which is of bytes, a record number k, an output o and an answer slice a, it may return r and leave o' and a'.
pub record Asks (b : List ℕ) (k : ℕ) (o a : List ℕ) (r : ℕ) (o' a' : List ℕ) : Type 0 where
  pub of_bytes : Bytes b
  pub lifetimes : Lfts 3
  pub lent : Dens lifetimes why_kinds.ps
  pub back : AtExit (ended_of 3 why_kinds.ps why_kinds.r) lifetimes
  pub permitted : why_contract.Post lifetimes lent r back
  pub file : lent.0.now ≡ b
  pub asked : lent.1.0 ≡ k
  pub output : lent.1.1.0.now ≡ o
  pub answer : lent.1.1.1.0.now ≡ a
  pub written : back.1.1.0.now ≡ o'
  pub left : back.1.1.1.0.now ≡ a'

-- The reason that is written: the chain of record k of the accepted run that the file tells.
pub record ReasonOf (b : List ℕ) (k : ℕ) (out : List ℕ) : Type 0 where
  pub run : Run
  pub chain : List ℕ
  pub reads : read b ≡ whole run
  pub obeys : Obeys run
  pub range : IsRecord run k
  pub causes : Chain run k chain
  pub bytes : out ≡ bytes_of chain

-- what is given is no refusal
not_four : ¬ (◌≡◌ {A = ℕ} 6 4)
not_four e = omega arith

came_six : {b : List ℕ} {k room : ℕ} {w : Outcome} → WhySays b k room w → w.told.answer ≡ 6 → (out : List ℕ) → out ≡ w.writes
    → (R : ReasonOf b k out) × (w.told.code ≡ length R.chain)
unfolding chain_out
came_six (WhySays.file_refused e) six out q = absurd (omega (arith, six))
came_six (WhySays.rule_broken_row e f) six out q = absurd (omega (arith, six))
came_six (WhySays.no_record e O f) six out q = absurd (omega (arith, six))
came_six (WhySays.no_room e O h C f) six out q = absurd (omega (arith, six))
came_six (WhySays.told {ρ = ρ} {l = l} e O h C f) six out q =
    (record { run = ρ; chain = l; reads = e; obeys = O; range = h; causes = C; bytes = q }, refl)

-- Nothing is assumed of the caller.
pub why_asks_nothing : (κs : Lfts 3) (lent : Dens κs why_kinds.ps) → why_contract.Pre κs lent
why_asks_nothing κs lent = tt

module _ {b : List ℕ} {k : ℕ} {o a : List ℕ} {r : ℕ} {o' a' : List ℕ} (C : Asks b k o a r o' a') where
  is_why : record { returns = r; output = o'; answer = a' } ≡ why_call b k o a
  is_why =
      let (p, q, s) = C.permitted in
      (λ κ. record { returns = p κ; output = (sym C.written ∙ q) κ; answer = (sym C.left ∙ s) κ })
      ∙ (λ κ. why_call (C.file κ) (C.asked κ) (C.output κ) (C.answer κ))

  fit : FiveFit (why b k (length o)).told
  fit = why_fits b k (length o) C.of_bytes

  -- A shorter answer slice is met first of all: the call returns 4 and no byte changes.
  pub why_met_short : length a < answer_size → (r ≡ 4) × (o' ≡ o) × (a' ≡ a)
  why_met_short = met_short (why b k (length o)) o a is_why

  -- Every file and every record number get one of the listed answers.
  pub why_answers : answer_size ≤ length a → WhyRow (five_in a') × (r ≡ (five_in a').answer) × (drop answer_size a' ≡ drop answer_size a)
  why_answers = answered (why b k (length o)) o a is_why fit WhyRow (every_why_answered b k (length o))

  -- An answer other than 6 is 4, and no byte of the output changes.
  pub why_refused_keeps : ¬ (r ≡ 6) → (r ≡ 4) × (o' ≡ o)
  why_refused_keeps = keeps (why b k (length o)) o a is_why (why_comes b k (length o)) fit

  -- A refusal is given exactly when the request says so of the file, the record and the room.
  pub why_refuses_exactly : answer_size ≤ length a → (ν i : ℕ) → (five_in a' ≡ refusal ν i) ↔ WhySays b k (length o) (refused_with ν i)
  why_refuses_exactly =
      told_exactly (why b k (length o)) o a is_why (why_comes b k (length o)) fit not_four (WhySays b k (length o)) (why_says b k (length o))

  -- Of every record of an accepted run the chain is given where there is room for its numbers; for 512 there always is.
  pub why_gives : answer_size ≤ length a → {ρ : Run} {l : List ℕ} → read b ≡ whole ρ → Obeys ρ → IsRecord ρ k → Chain ρ k l
      → 4 * length l ≤ length o → r ≡ 6
  unfolding chain_out
  why_gives long {ρ} {l} e O h D room =
      let (f, n, out, kept) = output_told (why b k (length o)) o a _ is_why fit long in
      n ∙ ap (λ w. w.told.answer) ((why_says b k (length o) (chain_out l)).1 (WhySays.told e O h D room))

  pub room_enough : answer_size ≤ length a → {ρ : Run} → read b ≡ whole ρ → Obeys ρ → IsRecord ρ k → 2048 ≤ length o → r ≡ 6
  room_enough long {ρ} e O h room =
      let W = read_limits b ρ e in
      let D = closes ρ W O k h in
      why_gives long e O h D (omega (arith, no_longer ρ W O h D, W.record_total))

  module _ (six : r ≡ 6) where
    why_writes : (chain_bytes o' a' ≡ (why b k (length o)).writes) × (drop (4 * (five_in a').code) o' ≡ drop (4 * (five_in a').code) o)
    why_writes = writes (why b k (length o)) o a is_why (why_comes b k (length o)) fit not_four six

    -- bytes after the numbers keep their values
    pub rest_keeps : drop (4 * (five_in a').code) o' ≡ drop (4 * (five_in a').code) o
    rest_keeps = why_writes.1

    told : ((five_in a').code ≡ (why b k (length o)).told.code) × ((why b k (length o)).told.answer ≡ 6)
    told = code_told (why b k (length o)) o a is_why (why_comes b k (length o)) fit not_four six

    given : (R : ReasonOf b k (chain_bytes o' a')) × ((why b k (length o)).told.code ≡ length R.chain)
    given = came_six ((why_says b k (length o) (why b k (length o))).0 refl) told.1 (chain_bytes o' a') why_writes.0

    -- 6 is answered where the run obeys all rules and has this record; what is written is the chain of its causes, ..
    pub reason : ReasonOf b k (chain_bytes o' a')
    reason = given.0

    -- .. the code counts its numbers, ..
    pub reason_counted : (five_in a').code ≡ length reason.chain
    unfolding reason
    reason_counted = told.0 ∙ given.1

    -- .. and a host reads them there, from the record asked about on.
    pub reason_read : (x : ℕ) → num (chain_bytes o' a') (4 * x) ≡ get_or reason.chain x 0
    reason_read x = ap (λ l. num l (4 * x)) reason.bytes ∙ num_at reason.chain (record { at = small }) x
      where
        small : (y : ℕ) → FourBytes (get_or reason.chain y 0)
        small y = go (dec_lt y (length reason.chain))
          where
            W : WithinLimits reason.run
            W = read_limits b reason.run reason.reads

            go : Dec (y < length reason.chain) → FourBytes (get_or reason.chain y 0)
            go (yes l) = omega (arith, all_records reason.run W reason.obeys reason.range reason.causes y l, W.record_total)
            go (no l) =
                let past : length reason.chain ≤ y = omega (arith, l) in
                omega (arith, get_or-eq_default reason.chain 0 past)

-- Of a reason: each link holds in the run, the chain closes, and the sum.
-- -----------------------------------------------------------------------
module _ {b : List ℕ} {k : ℕ} {out : List ℕ} (R : ReasonOf b k out) where
  abbrev ρ : Run
  ρ = R.run

  abbrev l : List ℕ
  l = R.chain

  pub from_the_asked : get_or l 0 0 ≡ k
  from_the_asked = begins_with ρ R.causes

  pub link_holds : (x : ℕ) → suc x < length l → Cause ρ (get_or l x 0) (get_or l (suc x) 0)
  link_holds = each_link ρ R.causes

  pub to_the_first : AtRelease ρ (first_job k l)
  to_the_first = first_at_release ρ R.causes

  pub starts_only_fall : (x y : ℕ) → x < y → y < length l → (rec ρ (get_or l y 0)).start < (rec ρ (get_or l x 0)).start
  starts_only_fall = starts_fall ρ (read_limits b ρ R.reads) R.obeys R.causes

  pub no_record_twice : (x y : ℕ) → x < length l → y < length l → get_or l x 0 ≡ get_or l y 0 → x ≡ y
  no_record_twice = none_twice ρ (read_limits b ρ R.reads) R.obeys R.causes

  pub only_one : {m : List ℕ} → Chain ρ k m → l ≡ m
  only_one = chain_once ρ (read_limits b ρ R.reads) R.obeys R.causes

  -- the record's end equals the first job's release plus the lengths of all jobs in the chain
  pub end_adds_up : (rec ρ k).end ≡ (rec ρ (first_job k l)).release + lengths ρ l
  end_adds_up = adds_up ρ (read_limits b ρ R.reads) R.obeys R.range R.causes
