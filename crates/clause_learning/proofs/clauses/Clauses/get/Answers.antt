use Rattle.std.proofs.Common.{ℕ, ◌-◌, ◌<◌, ◌≤◌, map, slice_get, option_map, option_copied, sym, ap, subst, ◌∙◌}
use Rattle.clause_learning.specs.declared.clauses.Learned.{Learned}
use Rattle.clause_learning.proofs.Members.{got_front, got_behind}
use Rattle.clause_learning.proofs.clauses.Clauses.get.Goals as goal

pub returns-then-number-given : goal.returns-then-number-given
returns-then-number-given c =
    let s = c.args.self.now in
    let within = subst (λ (n : ℕ). c.args.number < n) c.len-given.ensures c.if-number-given.true in
    c.get.ensures.value ∙ sym (got_front s.inputs (map (λ l. l.lits) s.log) c.args.number within)

pub returns-in-Some : goal.returns-in-Some
returns-in-Some c =
    let s = c.args.self.now in
    let past = subst (λ (n : ℕ). n ≤ c.args.number) c.len-given.ensures c.if-number-given.false in
    let got = sym (ap option_copied c.in-Some.is) ∙ c.get-2.ensures.value ∙ ap (λ (n : ℕ). slice_get s.log (c.args.number - n)) c.len-given.ensures in
    ap (option_map (λ (l : Learned). l.lits)) got ∙ sym (got_behind (λ l. l.lits) s.inputs s.log c.args.number past)

pub returns-in-None : goal.returns-in-None
returns-in-None c =
    let s = c.args.self.now in
    let past = subst (λ (n : ℕ). n ≤ c.args.number) c.len-given.ensures c.if-number-given.false in
    let got = sym (ap option_copied c.in-None.is) ∙ c.get-2.ensures.value ∙ ap (λ (n : ℕ). slice_get s.log (c.args.number - n)) c.len-given.ensures in
    ap (option_map (λ (l : Learned). l.lits)) got ∙ sym (got_behind (λ l. l.lits) s.inputs s.log c.args.number past)
