use Rattle.std.specs.Prelude.{◌≡◌, ◌≤◌, ◌++◌, true, false, None, length, OnOk, IfErr}
use Rattle.std.proofs.Common.{ap, sym, ◌∙◌, subst, arith, length-append}
use Rattle.tptp_base.specs.declared.read.TheConstants.{FILE_SIZE}
use Rattle.tptp_base.specs.Place.{place_of}
use Rattle.tptp_base.specs.declared.place.Place.{Place}
use Rattle.tptp_lexer.specs.declared.fault.LexFault.TheVariants.{Byte}
use Rattle.lexer_pieces.specs.Pieces.{Fed, Shows, StopsAnyway, Takes}
use Rattle.lexer_pieces.specs.Reached.{IsReached}
use Rattle.lexer_pieces.specs.declared.lexer.Lexer.TheInside.{Inside}
use Rattle.lexer_pieces.proofs.Reaching.{reached_more}
use Rattle.lexer_pieces.proofs.lexer.Lexer.take.Goals.{then-reached, else-reached}
use Rattle.lexer_pieces.proofs.lexer.Lexer.take.Goals as goal

pub invariant_of-self : goal.invariant_of-self
invariant_of-self c =
    let same = sym c.in_err-extend_from_slice.ensures.items in
    (subst (λ z. IsReached c.self.inside.style z c.self.inside.at) same c.self.invariant.0, λ free. subst (λ z. length z ≤ FILE_SIZE) same (c.self.invariant.1 free))

pub reach-reached-requires : goal.reach-reached-requires
reach-reached-requires c =
    let all = c.as_slice-text.ensures.value ∙ c.in_ok-extend_from_slice.ensures.items in
    subst (λ z. IsReached c.self.inside.style z c.self.inside.at) (sym all) (reached_more c.self.inside.style c.self.inside.text.items c.args.piece.now c.self.inside.at c.self.invariant.0)

-- no fault is kept
free : (c : goal.Joined-reached) → c.self.inside.fault ≡ None
free c = ap (λ (fed : Fed). fed.fault) c.self.view_is ∙ c.requires

-- the pieces are within the limit
within : (c : goal.Joined-reached) → length c.extend_from_slice.new.self.items ≤ FILE_SIZE
within c =
    let before = c.self.invariant.1 (free c) in
    let all = ap length c.in_ok-extend_from_slice.ensures.items in
    omega (arith, before, all, length-append c.self.inside.text.items c.args.piece.now, c.if-piece-len.false, c.len.ensures)

reached_there : (c : goal.Joined-reached) → IsReached c.self.inside.style c.extend_from_slice.new.self.items c.reach-reached.result.at
reached_there c = subst (λ z. IsReached c.self.inside.style z c.reach-reached.result.at) c.as_slice-text.ensures.value c.reach-reached.ensures.reached

-- what contracts see of the fields
abbrev view : Inside → Fed
view i = record { file = i.file; style = i.style; text = i.text.items; fault = i.fault }

-- the fields hold what was reached
abbrev Holds : Inside → Type 0
Holds i = IsReached i.style i.text.items i.at × (i.fault ≡ None → length i.text.items ≤ FILE_SIZE)

pub invariant_of-self-2 : goal.invariant_of-self-2
invariant_of-self-2 c = elim c.if-reached.branch [
  | then-reached w ↦ subst Holds (sym w.self-inside-is) (reached_there c, λ none. within c)
  | else-reached w ↦ subst Holds (sym w.self-inside-is) (reached_there c, λ none. within c)
]

-- the whole that was taken
taken : (c : goal.Joined-reached) → c.reach-reached.result.stops ≡ false → Takes c.args.self.now c.args.piece.now (record { file = c.self.inside.file; style = c.self.inside.style; text = c.extend_from_slice.new.self.items; fault = c.self.inside.fault })
taken c goes =
    let old : record { file = c.self.inside.file; style = c.self.inside.style; text = c.self.inside.text.items; fault = c.self.inside.fault } ≡ c.args.self.now = c.self.view_is in
    (c.requires, whole c, record { fits = within c; goes_on = λ place stops. c.reach-reached.ensures.goes goes c.self.inside.file place (subst (λ z. StopsAnyway c.self.inside.file c.self.inside.style z place) (sym c.as_slice-text.ensures.value) stops) })
  where
    whole : (c : goal.Joined-reached) → record { file = c.self.inside.file; style = c.self.inside.style; text = c.extend_from_slice.new.self.items; fault = c.self.inside.fault } ≡ record c.args.self.now { text = c.args.self.now.text ++ c.args.piece.now }
    whole c = ap (λ z. record { file = c.self.inside.file; style = c.self.inside.style; text = z; fault = c.self.inside.fault }) c.in_ok-extend_from_slice.ensures.items ∙ ap (λ (fed : Fed). record fed { text = fed.text ++ c.args.piece.now }) c.self.view_is

pub returns-clause-taken : goal.returns-clause-taken
returns-clause-taken c = elim c.if-reached.branch [
  | then-reached w ↦ subst (λ r. OnOk r (Takes c.args.self.now c.args.piece.now (view c.if-reached.self-inside))) (sym w.result-is) tt
  | else-reached w ↦ subst (λ r. OnOk r (Takes c.args.self.now c.args.piece.now (view c.if-reached.self-inside))) (sym w.result-is) (subst (λ (i : Inside). Takes c.args.self.now c.args.piece.now (view i)) (sym w.self-inside-is) (taken c w.if-reached.false))
]

pub returns-clause-shown : goal.returns-clause-shown
returns-clause-shown c = elim c.if-reached.branch [
  | then-reached w ↦ subst (λ r. IfErr r (λ fault. Shows c.args.self.now.file c.args.self.now.style (c.args.self.now.text ++ c.args.piece.now) fault)) (sym w.result-is) (shown w.if-reached.true w.place_at.result w.place_at.ensures)
  | else-reached w ↦ subst (λ r. IfErr r (λ fault. Shows c.args.self.now.file c.args.self.now.style (c.args.self.now.text ++ c.args.piece.now) fault)) (sym w.result-is) tt
]
  where
    stops : c.reach-reached.result.stops ≡ true → StopsAnyway c.self.inside.file c.self.inside.style c.extend_from_slice.new.self.items (place_of c.self.inside.file c.extend_from_slice.new.self.items c.reach-reached.result.at)
    stops told = subst (λ z. StopsAnyway c.self.inside.file c.self.inside.style z (place_of c.self.inside.file z c.reach-reached.result.at)) c.as_slice-text.ensures.value (c.reach-reached.ensures.stops told c.self.inside.file)

    shown : c.reach-reached.result.stops ≡ true → (place : Place) → place ≡ place_of c.self.inside.file c.as_slice-text.result.now c.reach-reached.result.at → Shows c.args.self.now.file c.args.self.now.style (c.args.self.now.text ++ c.args.piece.now) (Byte place)
    shown told place is =
        let at : place_of c.self.inside.file c.extend_from_slice.new.self.items c.reach-reached.result.at ≡ place = sym (is ∙ ap (λ z. place_of c.self.inside.file z c.reach-reached.result.at) c.as_slice-text.ensures.value) in
        let own : Shows c.self.inside.file c.self.inside.style c.extend_from_slice.new.self.items (Byte place) = (within c, subst (StopsAnyway c.self.inside.file c.self.inside.style c.extend_from_slice.new.self.items) at (stops told)) in
        let all = subst (λ z. Shows c.self.inside.file c.self.inside.style z (Byte place)) c.in_ok-extend_from_slice.ensures.items own in
        subst (λ (fed : Fed). Shows fed.file fed.style (fed.text ++ c.args.piece.now) (Byte place)) c.self.view_is all
