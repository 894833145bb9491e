-- How entries are added and logged one by one.
use Rattle.std.proofs.Common.{◌≡◌, ℕ, suc, ◌+◌, ◌<◌, List, [], ◌∷◌, ◌++◌, length, take, drop, get_or, Option, refl, sym, ◌∙◌, ap, subst, append_assoc, drop-cons, add-one}
use Rattle.std.proofs.lemmas.List.{append-nil, take_more}
use Rattle.std.proofs.lemmas.Grind.{flat_map-append}
use Rattle.std.specs.Io.KnownBytes.{append_known}
use Rattle.tptp_base.specs.Sink.{Takes, TakesPrefix}
use Rattle.tptp_base.proofs.Taken.{takes_nothing, takes_both, takes_then_prefix}
use Rattle.kernel.specs.Statements.{Statements}
use Rattle.kernel.specs.Entries.{Legal, After, Admits}
use Rattle.kernel.proofs.EntryLaws.{admits_more}
use Rattle.kernel.specs.declared.entry.Entry.{Entry}
use Rattle.proof_log.specs.Entries.{AreNumbersInRange, HaveNumbersInRange, entry_text}
use Rattle.verifier.specs.Logged.{CanAdmit, LogsSome, entries_text}
use Rattle.proof_log.proofs.OneTheory.{one_after}
use Rattle.verifier.proofs.Logs.{range_both}

-- Some entries are added and logged, and the rest is legal in turn after them.
pub record IsAdding (t0 : Statements) (all : List Entry) (t : Statements) (done rest : List Entry) (log_old log_now : Option (List ℕ)) : Type 0 where
  pub whole : done ++ rest ≡ all
  pub admitted : Admits t0 done t
  pub can : CanAdmit t rest
  pub taken : Takes log_old log_now (entries_text done)
  pub in_range : HaveNumbersInRange done

pub adding_none : (t : Statements) (all : List Entry) (log : Option (List ℕ)) → CanAdmit t all → IsAdding t all t [] all log log
adding_none t all log can = record { whole = refl; admitted = refl; can = can; taken = takes_nothing log; in_range = tt }

pub adding_legal : (t0 : Statements) (all : List Entry) (t : Statements) (done now rest : List Entry) (e : Entry) (log_old log_now : Option (List ℕ)) → now ≡ e ∷ rest → IsAdding t0 all t done now log_old log_now → Legal t e
adding_legal t0 all t done now rest e log_old log_now here so_far =
    let can : CanAdmit t (e ∷ rest) = subst (CanAdmit t) here so_far.can in can.1.0

text_more : (done : List Entry) (e : Entry) → entries_text (done ++ e ∷ []) ≡ entries_text done ++ entry_text e
text_more done e = flat_map-append entry_text done (e ∷ []) ∙ ap (λ (text : List ℕ). entries_text done ++ text) (append-nil (entry_text e))

pub adding_more : (t0 : Statements) (all : List Entry) (t new : Statements) (done longer now rest : List Entry) (e : Entry) (log_old log_now log_new : Option (List ℕ)) → now ≡ e ∷ rest → longer ≡ done ++ e ∷ [] → IsAdding t0 all t done now log_old log_now
    → After t e new → Takes log_now log_new (entry_text e) → AreNumbersInRange e → IsAdding t0 all new longer rest log_old log_new
adding_more t0 all t new done longer now rest e log_old log_now log_new here added so_far after taken fits =
    let before : IsAdding t0 all t done (e ∷ rest) log_old log_now = subst (λ (es : List Entry). IsAdding t0 all t done es log_old log_now) here so_far in
    let can : CanAdmit t (e ∷ rest) = before.can in
    let same : can.1.1.0 ≡ new = one_after t e can.1.1.0 new can.1.1.1 after in
    subst (λ (es : List Entry). IsAdding t0 all new es rest log_old log_new) (sym added) (record {
      whole = append_assoc done (e ∷ []) rest ∙ before.whole;
      admitted = admits_more t0 t new done e before.admitted can.1.0 after;
      can = (can.0, subst (λ (x : Statements). Admits x rest can.0) same can.1.1.2);
      taken = takes_both log_old log_now log_new (entries_text done) (entry_text e) before.taken taken ∙ ap (λ (text : List ℕ). append_known log_old text) (sym (text_more done e));
      in_range = range_both done (e ∷ []) before.in_range (fits, tt);
    })

-- the text of the next entry is cut
pub adding_cut : (t0 : Statements) (all : List Entry) (t : Statements) (done now rest : List Entry) (e : Entry) (log_old log_now log_new : Option (List ℕ)) → now ≡ e ∷ rest → IsAdding t0 all t done now log_old log_now
    → TakesPrefix log_now log_new (entry_text e) → LogsSome t0 log_old log_new
adding_cut t0 all t done now rest e log_old log_now log_new here so_far cut =
    let before : IsAdding t0 all t done (e ∷ rest) log_old log_now = subst (λ (es : List Entry). IsAdding t0 all t done es log_old log_now) here so_far in
    let can : CanAdmit t (e ∷ rest) = before.can in
    record {
      entries = done ++ e ∷ [];
      theory = can.1.1.0;
      legal = admits_more t0 t can.1.1.0 done e before.admitted can.1.0 can.1.1.1;
      taken = subst (TakesPrefix log_old log_new) (sym (text_more done e)) (takes_then_prefix log_old log_now log_new (entries_text done) (entry_text e) before.taken cut);
    }

pub adding_all : (t0 : Statements) (all : List Entry) (t : Statements) (done rest : List Entry) (log_old log_now : Option (List ℕ)) → rest ≡ [] → IsAdding t0 all t done rest log_old log_now → Admits t0 all t × Takes log_old log_now (entries_text all) × HaveNumbersInRange all
adding_all t0 all t done rest log_old log_now none so_far =
    let same : done ≡ all = sym (append-nil done) ∙ ap (λ (es : List Entry). done ++ es) (sym none) ∙ so_far.whole in
    (subst (λ (es : List Entry). Admits t0 es t) same so_far.admitted, subst (λ (es : List Entry). Takes log_old log_now (entries_text es)) same so_far.taken, subst HaveNumbersInRange same so_far.in_range)

-- the entry at a place
pub entry_here : (es : List Entry) (i : ℕ) (e : Entry) → i < length es → e ≡ get_or es i e → drop i es ≡ e ∷ drop (i + 1) es
entry_here es i e lt is = rw add-one (drop-cons es i e lt ∙ ap (λ (x : Entry). x ∷ drop (suc i) es) (sym is))

pub entry_done : (es : List Entry) (i : ℕ) (e : Entry) → i < length es → e ≡ get_or es i e → take (i + 1) es ≡ take i es ++ e ∷ []
entry_done es i e lt is = take_more es i e lt ∙ ap (λ (x : Entry). take i es ++ x ∷ []) (sym is)
