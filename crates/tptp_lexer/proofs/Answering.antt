-- A region has an answer, and only one.
use Rattle.std.proofs.Common.{◌≡◌, ℕ, ◌+◌, ◌-◌, ◌≤◌, List, [], ◌∷◌, ◌++◌, length, map, inl, inr, refl, sym, ap, subst, ◌∙◌, arith, Result, Ok, Err}
use Rattle.std.proofs.lemmas.Bool.{cases_lt}
use Rattle.tptp_base.specs.declared.limit.LimitName.TheVariants.{FileSize}
use Rattle.tptp_base.specs.declared.place.Place.{Place}
use Rattle.tptp_base.specs.declared.place.Region.{Region}
use Rattle.tptp_base.specs.declared.read.TheConstants.{FILE_SIZE}
use Rattle.tptp_base.specs.Place.{place_of}
use Rattle.tptp_lexer.specs.declared.fault.LexFault.{LexFault}
use Rattle.tptp_lexer.specs.declared.fault.LexFault.TheVariants.{Byte, Unfinished, Limit, Memory}
use Rattle.tptp_lexer.specs.declared.style.Style.{Style}
use Rattle.tptp_lexer.specs.declared.token.Token.{Token}
use Rattle.tptp_lexer.specs.declared.token.Tokens.{Tokens}
use Rattle.tptp_lexer.specs.Answer.{IsOpen, part, Reaches, Answers, IsOne, HasAnswer, Gives}
use Rattle.tptp_lexer.specs.Bytes.{Text}
use Rattle.tptp_lexer.specs.Tokenized.{Cut, here, after_blank, after_token, placed, bare, bare_items, Tokenized}
use Rattle.tptp_lexer.proofs.Cuts.{IsStuck, stuck_end, stuck_nothing, stuck_open, same_cut, IsEnd, cut_on}

-- nothing that is open is empty
open_some : IsOpen [] → ⊥
open_some (inl o) = elim o.is_text [ inl e ↦ (cc) | inr e ↦ (cc) ]
open_some (inr (inl o)) = elim o.is_text [ inl e ↦ (cc) | inr e ↦ (cc) ]
open_some (inr (inr o)) = let e = o.is_text in cc

module _ (file : ℕ) (text : Text) (region : Region) (style : Style) where
  abbrev Leads : List (Token × Place) → Place → Text → Type 0
  Leads items place rest = Reaches file text region style items place rest

  same_lead : (xs ys : List (Token × Place)) (here_at there : Place) (rest after : Text) → Leads xs here_at rest → Leads ys there after → IsStuck style rest → IsStuck style after → (xs ≡ ys) × (here_at ≡ there) × (rest ≡ after)
  same_lead xs ys a b rest after (k, cut, is) (n, other, same) stuck also =
      let (lists, ends, rests) = same_cut style (placed file text) cut other refl stuck also in
      (lists, is ∙ ap (place_of file text) ends ∙ sym same, rests)

  same_tokens : (tokens others : Tokens) → tokens.items ≡ others.items → tokens.end ≡ others.end → tokens.style ≡ others.style → tokens ≡ others
  same_tokens tokens others e f g =
      let first : tokens ≡ record { items = others.items; end = tokens.end; style = tokens.style } = ap (λ (i : List (Token × Place)). let r : Tokens = record { items = i; end = tokens.end; style = tokens.style } in r) e in
      let second : record { items = others.items; end = tokens.end; style = tokens.style } ≡ record { items = others.items; end = others.end; style = tokens.style } = ap (λ (p : Place). let r : Tokens = record { items = others.items; end = p; style = tokens.style } in r) f in
      let third : record { items = others.items; end = others.end; style = tokens.style } ≡ others = ap (λ (s : Style). let r : Tokens = record { items = others.items; end = others.end; style = s } in r) g in
      first ∙ (second ∙ third)

  pub one : (answer other : Result Tokens LexFault) → Answers file text region style answer → Answers file text region style other → IsOne answer other
  one (Err Memory) other h k = inr (inl refl)
  one (Ok tokens) (Err Memory) h k = inr (inr refl)
  one (Err (Byte p)) (Err Memory) h k = inr (inr refl)
  one (Err (Unfinished p)) (Err Memory) h k = inr (inr refl)
  one (Err (Limit n)) (Err Memory) h k = inr (inr refl)
  one (Err (Limit n)) (Err (Limit m)) h k = inl (ap (λ x. Err (Limit x)) (h.1 ∙ sym k.1))
  one (Err (Limit n)) (Ok tokens) h k = absurd (omega (arith, h.0, k.0))
  one (Err (Limit n)) (Err (Byte p)) h k = absurd (omega (arith, h.0, k.0))
  one (Err (Limit n)) (Err (Unfinished p)) h k = absurd (omega (arith, h.0, k.0))
  one (Ok tokens) (Err (Limit n)) h k = absurd (omega (arith, h.0, k.0))
  one (Err (Byte p)) (Err (Limit n)) h k = absurd (omega (arith, h.0, k.0))
  one (Err (Unfinished p)) (Err (Limit n)) h k = absurd (omega (arith, h.0, k.0))
  one (Ok tokens) (Ok others) h k =
      let (lists, places, rests) = same_lead _ _ _ _ [] [] h.2 k.2 (stuck_end style) (stuck_end style) in
      inl (ap Ok (same_tokens tokens others lists places (h.1 ∙ sym k.1)))
  one (Ok tokens) (Err (Byte p)) h (fits, items, rest, leads, begins) =
      let (lists, places, rests) = same_lead _ _ _ _ [] rest h.2 leads (stuck_end style) (stuck_nothing style rest begins) in absurd (begins.goes_on (sym rests))
  one (Ok tokens) (Err (Unfinished p)) h (fits, items, rest, leads, open_here) =
      let (lists, places, rests) = same_lead _ _ _ _ [] rest h.2 leads (stuck_end style) (stuck_open style rest open_here) in absurd (open_some (subst IsOpen (sym rests) open_here))
  one (Err (Byte p)) (Ok tokens) (fits, items, rest, leads, begins) k =
      let (lists, places, rests) = same_lead _ _ _ _ rest [] leads k.2 (stuck_nothing style rest begins) (stuck_end style) in absurd (begins.goes_on rests)
  one (Err (Unfinished p)) (Ok tokens) (fits, items, rest, leads, open_here) k =
      let (lists, places, rests) = same_lead _ _ _ _ rest [] leads k.2 (stuck_open style rest open_here) (stuck_end style) in absurd (open_some (subst IsOpen rests open_here))
  one (Err (Byte p)) (Err (Byte q)) (fits, items, rest, leads, begins) (fit, others, after, also, nothing) =
      let (lists, places, rests) = same_lead _ _ _ _ rest after leads also (stuck_nothing style rest begins) (stuck_nothing style after nothing) in inl (ap (λ x. Err (Byte x)) places)
  one (Err (Unfinished p)) (Err (Unfinished q)) (fits, items, rest, leads, begins) (fit, others, after, also, nothing) =
      let (lists, places, rests) = same_lead _ _ _ _ rest after leads also (stuck_open style rest begins) (stuck_open style after nothing) in inl (ap (λ x. Err (Unfinished x)) places)
  one (Err (Byte p)) (Err (Unfinished q)) (fits, items, rest, leads, begins) (fit, others, after, also, open_here) =
      let (lists, places, rests) = same_lead _ _ _ _ rest after leads also (stuck_nothing style rest begins) (stuck_open style after open_here) in absurd (begins.no_open (subst IsOpen (sym rests) open_here))
  one (Err (Unfinished p)) (Err (Byte q)) (fits, items, rest, leads, open_here) (fit, others, after, also, begins) =
      let (lists, places, rests) = same_lead _ _ _ _ rest after leads also (stuck_open style rest open_here) (stuck_nothing style after begins) in absurd (begins.no_open (subst IsOpen rests open_here))

  some_by : region.end - region.start ≤ FILE_SIZE → (items : List (Token × Place)) (end : ℕ) (rest : Text) → Cut style (placed file text) region.start (part text region) items end rest → IsEnd style (placed file text) rest → HasAnswer file text region style
  some_by fits items end rest cut (inl e) =
      (Ok (record { items = items; end = place_of file text end; style = style }), λ never. (cc), (fits, refl, (end, subst (λ r. Cut style (placed file text) region.start (part text region) items end r) e cut, refl)))
  some_by fits items end rest cut (inr (inl begins)) = (Err (Byte (place_of file text end)), λ never. (cc), (fits, items, rest, (end, cut, refl), begins))
  some_by fits items end rest cut (inr (inr open_here)) = (Err (Unfinished (place_of file text end)), λ never. (cc), (fits, items, rest, (end, cut, refl), open_here))

  pub some : HasAnswer file text region style
  some = elim (cases_lt FILE_SIZE (region.end - region.start)) [
    | inl over ↦ (Err (Limit FileSize), λ never. (cc), (over, refl))
    | inr fits ↦ (let (items, end, rest, cut, ends) = cut_on style (placed file text) (length (part text region)) region.start (part text region) (omega arith) in some_by fits items end rest cut ends)
  ]

-- ---- without places

-- the same cut with other items and from another offset on
pub recut : {T U : Type 0} (style : Style) (item : Token → ℕ → T) (other : Token → ℕ → U) (f : T → U) → ((token : Token) (k n : ℕ) → f (item token k) ≡ other token n)
    → {at end : ℕ} {text rest : Text} {items : List T} → Cut style item at text items end rest → (start : ℕ) → (last : ℕ) × Cut style other start text (map f items) last rest
recut style item other f is {text = text} here start = (start, here)
recut style item other f is (after_blank h more) start = let (last, cut) = recut style item other f is more (start + 1) in (last, after_blank h cut)
recut {U = U} style item other f is {at = at} (after_token spelling {text = text} {rest = rest} {token = token} {items = items} spelled longest more) start =
    let (last, cut) = recut style item other f is more (start + length spelling) in
    let all : Cut style other start (spelling ++ text) (other token start ∷ map f items) last rest = after_token spelling spelled longest cut in
    (last, subst (λ (x : U). Cut style other start (spelling ++ text) (x ∷ map f items) last rest) (sym (is token at start)) all)

pub one_list : (style : Style) (text : Text) (tokens others : List Token) → Tokenized style text tokens → Tokenized style text others → tokens ≡ others
one_list style text tokens others (end, cut) (last, other) = (same_cut style bare cut other refl (stuck_end style) (stuck_end style)).0

pub tokenized : (file start end : ℕ) (text whole : Text) (style : Style) (items : List (Token × Place)) → Cut style (placed file whole) start text items end [] → Tokenized style text (bare_items items)
tokenized file start end text whole style items cut = recut style (placed file whole) bare (λ (item : Token × Place). item.0) (λ token k n. refl) cut 0

module _ (file : ℕ) (text : Text) (region : Region) (style : Style) (tokens : List Token) (is : Tokenized style (part text region) tokens) where
  -- where blanks and tokens lead, and no further
  lead_end : (items : List (Token × Place)) (place : Place) (rest : Text) → Reaches file text region style items place rest → IsStuck style rest → (bare_items items ≡ tokens) × (rest ≡ [])
  lead_end items place rest (k, cut, at) stuck =
      let (last, plain) = recut style (placed file text) bare (λ (item : Token × Place). item.0) (λ token k n. refl) cut 0 in
      let (lists, ends, rests) = same_cut style bare plain is.1 refl stuck (stuck_end style) in (lists, rests)

  pub given : (result : Result Tokens LexFault) → Answers file text region style result → region.end - region.start ≤ FILE_SIZE → Gives tokens result
  given (Ok answer) h fits = (lead_end answer.items answer.end [] h.2 (stuck_end style)).0
  given (Err Memory) h fits = tt
  given (Err (Limit n)) h fits = omega (arith, h.0)
  given (Err (Byte p)) (fit, items, rest, leads, begins) fits = begins.goes_on (lead_end items p rest leads (stuck_nothing style rest begins)).1
  given (Err (Unfinished p)) (fit, items, rest, leads, open_here) fits = open_some (subst IsOpen (lead_end items p rest leads (stuck_open style rest open_here)).1 open_here)
