-- How far tokens can be gone on from within a limit: the token at which they can no longer is one, and a token that is
-- nested too deep is such a token.
use Rattle.std.proofs.Common.{◌≡◌, Bool, true, false, if◌then◌else◌, ℕ, suc, ◌≤◌, ◌<◌, List, [], ◌∷◌, ◌++◌, length, Ok, Err, ◌⊎◌, inl, inr, refl, sym, ◌∙◌, ap, subst, append_assoc, append-nil, length-append, arith}
use Rattle.std.proofs.lemmas.List.{append_cancel_left}
use Rattle.first_fault.specs.Nesting.{Nested, plain, Within, FirstOver, here, behind}
use Rattle.first_fault.specs.code.Reading.{TooDeep, next}
use Rattle.first_fault.proofs.Exact.{plain-append}
use Rattle.first_fault.proofs.Separated.{length-plain}
use Rattle.tptp_lexer.specs.declared.style.Style.{Style}
use Rattle.tptp_lexer.specs.declared.token.Token.{Token}
use Rattle.tptp_base.specs.declared.item.Item.{Item}
use Rattle.tptp_grammar.specs.Tokens.{Tokens}
use Rattle.tptp_grammar.specs.Solid.{Placed, is_remark, solid}
use Rattle.tptp_lexer.specs.Dots.{is_comment}
use Rattle.tptp_grammar.specs.Files.{IsFile, SpellsWithin, IsPossible, IsPossibleWithin}
use Rattle.tptp_grammar.specs.code.ReadFile.{FileOutcome, file}
use Rattle.tptp_grammar.proofs.Solids.{BeginsSolid}
use Rattle.tptp_grammar.proofs.ExactFile.{solid_kept, solid_file, found_file}
use Rattle.tptp_grammar.proofs.FirstFaults.{FileFault, FileSays, file_says}
use Rattle.tptp_grammar.proofs.Whole.{solid_longer}

-- ---- lists of tokens in two parts

solid_by : (b : Bool) (t : Token) (all first second : List Token) → all ≡ first ++ second → (if b then all else t ∷ all) ≡ (if b then first else t ∷ first) ++ second
solid_by true t all first second e = e
solid_by false t all first second e = ap (λ l. t ∷ l) e

solid_append : (first second : List Placed) → solid (first ++ second) ≡ solid first ++ solid second
solid_append [] second = refl
solid_append (c ∷ first) second = solid_by (is_remark c) c.0 (solid (first ++ second)) (solid first) (solid second) (solid_append first second)

record Parts (us : Tokens) (first second : List Token) : Type 0 where
  left : Tokens
  right : Tokens
  is : us ≡ left ++ right
  left_is : plain left ≡ first
  right_is : plain right ≡ second

parts : (us : Tokens) (first second : List Token) → plain us ≡ first ++ second → Parts us first second
parts us [] second e = record { left = []; right = us; is = refl; left_is = refl; right_is = e }
parts [] (t ∷ first) second e = cc
parts (u ∷ us) (t ∷ first) second e =
    let same : u.0 ≡ t = cc in
    let others : plain us ≡ first ++ second = cc in
    let p = parts us first second others in
    record { left = u ∷ p.left; right = p.right; is = ap (λ l. u ∷ l) p.is; left_is = ap (λ l. u.0 ∷ l) p.left_is ∙ ap (λ (v : Token). v ∷ first) same; right_is = p.right_is }

within_front : (limit : ℕ) (first second : Tokens) → Within limit (first ++ second) → Within limit first
within_front limit [] second h = tt
within_front limit (u ∷ first) second h = (h.0, within_front limit first second h.1)

-- what begins a possible list is possible
pub possible_front : (style : Style) (limit : ℕ) (front more : List Placed) → IsPossibleWithin style limit (front ++ more) → IsPossibleWithin style limit front
possible_front style limit front more h =
    let p = parts h.before (solid front) (solid more) (h.same ∙ solid_append front more) in record {
      more = more ++ h.more;
      items = h.items;
      before = p.left;
      later = p.right ++ h.later;
      spells = subst (λ l. IsFile style h.items l (p.left ++ (p.right ++ h.later))) (append_assoc front more h.more)
          (subst (λ l. IsFile style h.items ((front ++ more) ++ h.more) l) (append_assoc p.left p.right h.later) (subst (λ l. IsFile style h.items ((front ++ more) ++ h.more) (l ++ h.later)) p.is h.spells));
      same = p.left_is;
      within = within_front limit p.left p.right (subst (Within limit) p.is h.within);
    }

pub possible_within : (style : Style) (limit : ℕ) (items : List Item) (tokens : List Placed) → SpellsWithin style limit items tokens → IsPossibleWithin style limit tokens
possible_within style limit items tokens (us, spells, within) = record {
  more = [];
  items = items;
  before = us;
  later = [];
  spells = subst (λ l. IsFile style items l (us ++ [])) (sym (append-nil tokens)) (subst (λ l. IsFile style items tokens l) (sym (append-nil us)) spells);
  same = sym (solid_file spells);
  within = within;
}

pub possible_so : (style : Style) (limit : ℕ) (tokens : List Placed) → IsPossibleWithin style limit tokens → IsPossible style tokens
possible_so style limit tokens h = (h.more, h.items, (h.before ++ h.later, h.spells))

-- ---- the token at which a list can't be gone on from

-- some spelled text begins with the tokens before this one, within the limit, and none with this one too
pub record Stuck (style : Style) (limit : ℕ) (tokens : List Placed) (entry : Placed) : Type 0 where
  pub front : List Placed
  pub rest : List Placed
  pub text : tokens ≡ front ++ (entry ∷ rest)
  pub possible : IsPossibleWithin style limit front
  pub no_more : IsPossibleWithin style limit (front ++ (entry ∷ [])) → ⊥

-- a list of which one part is as long as this one, or ends before it or behind it
abbrev Compared : List Placed → List Placed → Placed → Placed → Type 0
Compared first second entry other = ((first ≡ second) × (entry ≡ other))
    ⊎ (((more : List Placed) × (second ≡ first ++ (entry ∷ more))) ⊎ ((more : List Placed) × (first ≡ second ++ (other ∷ more))))

compare_on : (c : Placed) (first second : List Placed) (entry other : Placed) → Compared first second entry other → Compared (c ∷ first) (c ∷ second) entry other
compare_on c first second entry other (inl h) = inl (ap (λ l. c ∷ l) h.0, h.1)
compare_on c first second entry other (inr (inl h)) = inr (inl (h.0, ap (λ l. c ∷ l) h.1))
compare_on c first second entry other (inr (inr h)) = inr (inr (h.0, ap (λ l. c ∷ l) h.1))

compare : (first second rest after : List Placed) (entry other : Placed) → first ++ (entry ∷ rest) ≡ second ++ (other ∷ after) → Compared first second entry other
compare [] [] rest after entry other e = let same : entry ≡ other = cc in inl (refl, same)
compare [] (d ∷ second) rest after entry other e = let same : d ≡ entry = cc in inr (inl (second, ap (λ (v : Placed). v ∷ second) same))
compare (c ∷ first) [] rest after entry other e = let same : c ≡ other = cc in inr (inr (first, ap (λ (v : Placed). v ∷ first) same))
compare (c ∷ first) (d ∷ second) rest after entry other e =
    let same : c ≡ d = cc in
    let others : first ++ (entry ∷ rest) ≡ second ++ (other ∷ after) = cc in
    subst (λ (v : Placed). Compared (c ∷ first) (v ∷ second) entry other) same (compare_on c first second entry other (compare first second rest after entry other others))

-- a list that can be gone on from has no such token in it
pub not_possible : (style : Style) (limit : ℕ) (front more : List Placed) (entry : Placed) → IsPossibleWithin style limit (front ++ (entry ∷ more)) → (IsPossibleWithin style limit (front ++ (entry ∷ [])) → ⊥) → ⊥
not_possible style limit front more entry h no_more = no_more (possible_front style limit (front ++ (entry ∷ [])) more (subst (IsPossibleWithin style limit) (sym (append_assoc front (entry ∷ []) more)) h))

pub same_stuck : (style : Style) (limit : ℕ) (tokens : List Placed) (entry other : Placed) (s : Stuck style limit tokens entry) (r : Stuck style limit tokens other) → (s.front ≡ r.front) × (entry ≡ other)
same_stuck style limit tokens entry other s r = elim (compare s.front r.front s.rest r.rest entry other (sym s.text ∙ r.text)) [
  | inl h ↦ h
  | inr (inl h) ↦ absurd (not_possible style limit s.front h.0 entry (subst (IsPossibleWithin style limit) h.1 r.possible) s.no_more)
  | inr (inr h) ↦ absurd (not_possible style limit r.front h.0 other (subst (IsPossibleWithin style limit) h.1 s.possible) r.no_more)
]

-- ---- a token that is nested too deep

over_behind : {limit : ℕ} {us over : Tokens} → FirstOver limit us over → (u : Nested Token) (rest : Tokens) → us ≡ u ∷ rest → u.1 ≤ limit → FirstOver limit rest over
over_behind (here {t = t} {n = n} {ts = ts} lt) u rest e le = let same : (t, n) ≡ u = cc in absurd (omega (arith, lt, le, ap (λ (v : Nested Token). v.1) same))
over_behind {limit = limit} {over = over} (behind {t = t} {n = n} {ts = ts} le h) u rest e fits = let same : ts ≡ rest = cc in subst (λ (l : Tokens). FirstOver limit l over) same h

over_here : {limit : ℕ} {us over : Tokens} → FirstOver limit us over → (u : Nested Token) (rest : Tokens) → us ≡ u ∷ rest → limit < u.1 → over ≡ u ∷ rest
over_here (here lt) u rest e deep = e
over_here (behind {t = t} {n = n} {ts = ts} le h) u rest e deep = let same : (t, n) ≡ u = cc in absurd (omega (arith, le, deep, ap (λ (v : Nested Token). v.1) same))

-- behind tokens that are within the limit
over_later : (limit : ℕ) (before later over : Tokens) → Within limit before → FirstOver limit (before ++ later) over → FirstOver limit later over
over_later limit [] later over w h = h
over_later limit (u ∷ before) later over w h = over_later limit before later over w.1 (over_behind h u (before ++ later) refl w.0)

over_shorter : {limit : ℕ} {us over : Tokens} → FirstOver limit us over → length over ≤ length us
over_shorter (here lt) = omega arith
over_shorter (behind le h) = omega (arith, over_shorter h)

within_later : (limit : ℕ) (before later : Tokens) → Within limit (before ++ later) → Within limit later
within_later limit [] later h = h
within_later limit (u ∷ before) later h = within_later limit before later h.1

head_by : (b : Bool) (c : Placed) (ts : List Placed) (t : Token) (us : List Token) → is_remark c ≡ b → solid (c ∷ ts) ≡ t ∷ us → (solid ts ≡ t ∷ us → is_comment t ≡ false) → is_comment t ≡ false
head_by true c ts t us k e again = again (sym (ap (λ b. if b then solid ts else c.0 ∷ solid ts) k) ∙ e)
head_by false c ts t us k e again =
    let both : c.0 ∷ solid ts ≡ t ∷ us = sym (solid_kept c.0 c.1 ts k) ∙ e in
    let same : c.0 ≡ t = cc in
    ap is_comment (sym same) ∙ k

-- what is left without comments begins with none
solid_head : (ts : List Placed) (t : Token) (us : List Token) → solid ts ≡ t ∷ us → is_comment t ≡ false
solid_head [] t us e = cc
solid_head (c ∷ ts) t us e = head_by (is_remark c) c ts t us refl e (solid_head ts t us)

solid_more : (c : Placed) (rest : List Placed) → is_remark c ≡ false → length (solid (c ∷ rest)) ≡ suc (length (solid rest))
solid_more c rest e = ap length (solid_kept c.0 c.1 rest e)

-- the rest of a list that begins with no comment and has so many tokens is one
same_split : (first second rest after : List Placed) → first ++ rest ≡ second ++ after → BeginsSolid rest → BeginsSolid after → length (solid rest) ≡ length (solid after) → (first ≡ second) × (rest ≡ after)
same_split [] [] rest after e h k size = (refl, e)
same_split [] (d ∷ second) rest after e h k size =
    let solid_d : is_remark d ≡ false = subst BeginsSolid e h in
    absurd (omega (arith, ap (λ l. length (solid l)) e, solid_more d (second ++ after) solid_d, solid_longer second after, size))
same_split (c ∷ first) [] rest after e h k size =
    let solid_c : is_remark c ≡ false = subst BeginsSolid (sym e) k in
    absurd (omega (arith, ap (λ l. length (solid l)) e, solid_more c (first ++ rest) solid_c, solid_longer first rest, size))
same_split (c ∷ first) (d ∷ second) rest after e h k size =
    let same : c ≡ d = cc in
    let others : first ++ rest ≡ second ++ after = cc in
    let s = same_split first second rest after others h k size in
    (ap (λ l. c ∷ l) s.0 ∙ ap (λ (v : Placed). v ∷ second) same, s.1)

abbrev left_of : FileOutcome → List Token
left_of (Ok items) = []
left_of (Err f) = f.1

module _ (style : Style) (limit : ℕ) (front more : List Placed) (entry : Placed) (items : List Item) (before later : Tokens) (level : ℕ)
    (spells : IsFile style items (front ++ (entry ∷ more)) (before ++ ((entry.0, level) ∷ later))) (same : plain before ≡ solid front) (within : Within limit before) (deep : limit < level) where
  found_deep : file style limit (front ++ (entry ∷ more)) ≡ Err (TooDeep, entry.0 ∷ plain later)
  found_deep = elim (found_file style limit spells) [
    | inl h ↦ (let fits = (within_later limit before ((entry.0, level) ∷ later) h.0).0 in absurd (omega (arith, fits, deep)))
    | inr h ↦ h.2 ∙ ap (λ us. Err (TooDeep, plain us)) (over_here (over_later limit before ((entry.0, level) ∷ later) h.0 within h.1) (entry.0, level) later refl deep)
  ]

  left_solid : solid (entry ∷ more) ≡ entry.0 ∷ plain later
  left_solid = append_cancel_left (solid front) (solid (entry ∷ more)) (entry.0 ∷ plain later)
      (sym (solid_append front (entry ∷ more)) ∙ solid_file spells ∙ plain-append before ((entry.0, level) ∷ later) ∙ ap (λ l. l ++ (entry.0 ∷ plain later)) same)

  kept : is_remark entry ≡ false
  kept = solid_head (entry ∷ more) entry.0 (plain later) left_solid

  fault : FileFault style limit (front ++ (entry ∷ more)) TooDeep (entry.0 ∷ plain later)
  fault = subst (FileSays style limit (front ++ (entry ∷ more))) found_deep (file_says style limit (front ++ (entry ∷ more)))

  -- the same on each list that begins so
  refused : (other : List Placed) → file style limit (front ++ (entry ∷ other)) ≡ Err (TooDeep, solid (entry ∷ other))
  refused other =
      let f = fault in
      let s = same_split f.front front f.rest (entry ∷ more) (sym f.text) f.begins kept (ap length (f.left_is ∙ sym left_solid)) in
      ap (λ l. file style limit (l ++ (entry ∷ other))) (sym s.0) ∙ f.again (entry ∷ other) (ap next (sym s.1))

  pub deep_stuck : IsPossibleWithin style limit (front ++ (entry ∷ [])) → ⊥
  deep_stuck p =
      let at : file style limit ((front ++ (entry ∷ [])) ++ p.more) ≡ Err (TooDeep, solid (entry ∷ p.more)) = ap (file style limit) (append_assoc front (entry ∷ []) p.more) ∙ refused p.more in
      elim (found_file style limit p.spells) [
        | inl h ↦ (let wrong : ◌≡◌ {A = FileOutcome} (Ok p.items) (Err (TooDeep, solid (entry ∷ p.more))) = sym h.1 ∙ at in cc)
        | inr h ↦ (
            let wrong : ◌≡◌ {A = FileOutcome} (Err (TooDeep, plain h.0)) (Err (TooDeep, solid (entry ∷ p.more))) = sym h.2 ∙ at in
            let left : plain h.0 ≡ solid (entry ∷ p.more) = ap left_of wrong in
            let short = over_shorter (over_later limit p.before p.later h.0 p.within h.1) in
            let both = sym (solid_append (front ++ (entry ∷ [])) p.more) ∙ solid_file p.spells ∙ plain-append p.before p.later in
            let sizes = length-append (solid (front ++ (entry ∷ []))) (solid p.more) in
            let split = length-append (plain p.before) (plain p.later) in
            absurd (omega (arith, short, ap length left, length-plain h.0, length-plain p.later, solid_more entry p.more kept, ap length both, sizes, split, ap length p.same))
            )
      ]
