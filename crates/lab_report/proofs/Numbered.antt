-- The line at each place of a report, and what stands behind it.
use Rattle.std.proofs.Common.{◌≡◌, ◌⊎◌, inl, inr, ℕ, ℤ, zero, suc, ◌+◌, ◌-◌, ◌*◌, ◌^◌, ◌<◌, ◌≤◌, Bool, true, false, eqb, if◌then◌else◌, List, [], ◌∷◌, ◌++◌, length, drop, get_or, map, option_map, slice_get, IfSome, Option, Some, None, refl, sym, ap, subst, ◌∙◌, append_assoc, add-one, drop-cons, arith}
use Rattle.std.specs.List.{AllZip}
use Rattle.std.proofs.lemmas.List.{append-nil, length-append, length-map}
use Rattle.std.proofs.lemmas.Slice.Zip.{AllZip-long}
use Rattle.std.proofs.lemmas.Option.{none-some, slice_get-map, slice_get_read, slice_get_within, get_or_from_slice_get}
use Rattle.history_model.specs.Game.{Payoffs}
use Rattle.history_model.specs.Noise.{FlipRate}
use Rattle.result_lines.specs.declared.line.MatchLine.{MatchLine}
use Rattle.result_lines.specs.declared.tables.EntryLine.{EntryLine}
use Rattle.report_lines.specs.declared.line.Line.{Line}
use Rattle.report_lines.specs.declared.line.Line.TheVariants as lines
use Rattle.report_lines.specs.Texts.{is_line, line_text}
use Rattle.report_lines.specs.declared.line.Kind.{Kind}
use Rattle.report_lines.specs.declared.line.Kind.TheVariants as kinds
use Rattle.report_rules.specs.declared.report.Body.{Body}
use Rattle.report_rules.specs.declared.report.Body.TheVariants as bodies
use Rattle.report_rules.specs.declared.report.Head.{Head}
use Rattle.report_rules.specs.declared.report.Report.{Report}
use Rattle.report_names.specs.Names.{name_at, with_name, with_names}
use Rattle.report_names.proofs.Growth.{one_longer}
use Rattle.report_rules.specs.Text.{kind_of, body_lines, entry_lines, first_lines, lab_lines, lines_of, match_lines, own_lines, shown_entry, shown_first, shown_match, shown_own, side_by_side, text_of_lines}
use Rattle.report_rules.specs.Valid.{IsBody, IsCountedIn, IsTable, IsValid, head_of, match_names, shown_names}
use Rattle.report_rules.proofs.SoFar.{lines_print}

pub in_front : {X : Type 0} (xs ys : List X) (k : ℕ) → k < length xs → slice_get (xs ++ ys) k ≡ slice_get xs k
in_front [] ys k h = absurd (omega (arith, h))
in_front (x ∷ xs) ys zero h = refl
in_front (x ∷ xs) ys (suc k) h = in_front xs ys k (omega (arith, h))

pub behind : {X : Type 0} (xs ys : List X) (k : ℕ) → length xs ≤ k → slice_get (xs ++ ys) k ≡ slice_get ys (k - length xs)
behind [] ys k h = ap (slice_get ys) (omega arith)
behind (x ∷ xs) ys zero h = absurd (omega (arith, h))
behind (x ∷ xs) ys (suc k) h = behind xs ys k (omega (arith, h)) ∙ ap (slice_get ys) (omega arith)

-- what is made of an element stands at its place
pub made_there : {A B : Type 0} (f : A → B) (xs : List A) (k : ℕ) (x : A) → k < length xs → x ≡ get_or xs k x → slice_get (map f xs) k ≡ Some (f x)
made_there f xs k x inside at = slice_get-map f xs k ∙ ap (option_map f) (slice_get_read xs (length xs) k x refl inside at)

-- ---- entries

beside_get : {A B : Type 0} (f : A → B → Line) (xs : List A) (ys : List B) (k : ℕ) (x : A) (y : B) → slice_get xs k ≡ Some x → slice_get ys k ≡ Some y → slice_get (side_by_side f xs ys) k ≡ Some (f x y)
beside_get f [] ys k x y here there = absurd (none-some x here)
beside_get f (a ∷ us) [] k x y here there = absurd (none-some y there)
beside_get f (a ∷ us) (b ∷ vs) zero x y here there = cc
beside_get f (a ∷ us) (b ∷ vs) (suc k) x y here there = beside_get f us vs k x y here there

pub beside_there : {A B : Type 0} (f : A → B → Line) (xs : List A) (ys : List B) (k : ℕ) (x : A) (y : B) → k < length xs → x ≡ get_or xs k x → k < length ys → y ≡ get_or ys k y → slice_get (side_by_side f xs ys) k ≡ Some (f x y)
beside_there f xs ys k x y in_xs here in_ys there = beside_get f xs ys k x y (slice_get_read xs (length xs) k x refl in_xs here) (slice_get_read ys (length ys) k y refl in_ys there)

pub no_left : {A B : Type 0} (f : A → B → Line) (xs : List A) (ys : List B) (k : ℕ) → length xs ≤ k → slice_get (side_by_side f xs ys) k ≡ None
no_left f [] ys k past = refl
no_left f (a ∷ us) [] k past = refl
no_left f (a ∷ us) (b ∷ vs) zero past = absurd (omega (arith, past))
no_left f (a ∷ us) (b ∷ vs) (suc k) past = no_left f us vs k (omega (arith, past))

pub no_right : {A B : Type 0} (f : A → B → Line) (xs : List A) (ys : List B) (k : ℕ) → length ys ≤ k → slice_get (side_by_side f xs ys) k ≡ None
no_right f [] ys k past = refl
no_right f (a ∷ us) [] k past = refl
no_right f (a ∷ us) (b ∷ vs) zero past = absurd (omega (arith, past))
no_right f (a ∷ us) (b ∷ vs) (suc k) past = no_right f us vs k (omega (arith, past))

pub beside_count : {A B : Type 0} (f : A → B → Line) (xs : List A) (ys : List B) → length ys ≤ length xs → length (side_by_side f xs ys) ≡ length ys
beside_count f [] [] same = refl
beside_count f [] (b ∷ vs) same = absurd (omega (arith, same))
beside_count f (a ∷ us) [] same = refl
beside_count f (a ∷ us) (b ∷ vs) same = ap suc (beside_count f us vs (omega (arith, same)))

as_long : (ms : List MatchLine) (who : List ℕ) (es : List EntryLine) → AllZip (IsCountedIn ms) who es → length who ≡ length es
as_long ms who es z = sym (AllZip-long (IsCountedIn ms) who es z)

-- ---- how many lines there are

table_count : (names : List (List ℕ)) (ms : List MatchLine) (who : List ℕ) (es : List EntryLine) → length who ≡ length es → length (match_lines names ms ++ entry_lines names who es) ≡ length ms + length es
table_count names ms who es long =
    let matches = length-map ms (λ (line : MatchLine). lines.Match (shown_match names line)) in
    let both = length-append (match_lines names ms) (entry_lines names who es) in
    let entries = beside_count (λ (place : ℕ) (entry : EntryLine). lines.Entry (shown_entry names place entry)) who es (omega (arith, long)) in
    omega (arith, matches, both, entries)

-- a tournament's lines are its matches and entries
pub table_counted : (names : List (List ℕ)) (head : Head) (body : Body) (ms : List MatchLine) (who : List ℕ) (es : List EntryLine) → body ≡ bodies.Tournament ms who es → IsBody (length names) head body
    → length ms + length es ≡ length (body_lines names body)
table_counted names head body ms who es is v =
    let t : IsTable (length names) head ms who es = subst (IsBody (length names) head) is v in
    sym (table_count names ms who es (as_long ms who es t.counted)) ∙ ap (λ (b : Body). length (body_lines names b)) (sym is)

body_few : (names : List (List ℕ)) (head : Head) (body : Body) → IsBody (length names) head body → length (body_lines names body) ≤ 2144
body_few names head (bodies.Match line) v = omega arith
body_few names head (bodies.Tournament ms who es) v =
    let count = table_count names ms who es (as_long ms who es v.counted) in
    let few_matches = v.few_matches in
    let few_entries = v.few_entries in
    omega (arith, count, few_matches, few_entries)
body_few names head (bodies.Drill number first sum) v =
    let machines = length-map first (λ (line : ℕ × ℤ). lines.First (shown_first names line)) in
    let both = length-append (first_lines names first) (lines.Total sum ∷ []) in
    let few = v.few in
    omega (arith, machines, both, few)

own_lines_count : (names : List (List ℕ)) (noises : List FlipRate) → length noises ≤ length names → length (own_lines names noises) ≡ length noises
own_lines_count names noises fit = beside_count (λ (name : List ℕ) (noise : FlipRate). lines.Own (shown_own name noise)) names noises fit

-- the lines that tell of the lab, where it isn't that of a drill
pub lab_long : (kind : Kind) (offset : ℕ) (game : Payoffs) (noise : FlipRate) (names : List (List ℕ)) (noises : List FlipRate) → (kind ≡ kinds.Match) ⊎ (kind ≡ kinds.Tournament) → length noises ≤ length names
    → 2 + length noises ≡ length (lab_lines kind offset game noise (own_lines names noises))
lab_long kind offset game noise names noises (inl is) fit = rw is (omega (arith, own_lines_count names noises fit))
lab_long kind offset game noise names noises (inr is) fit = rw is (omega (arith, own_lines_count names noises fit))

lab_few : (kind : Kind) (offset : ℕ) (game : Payoffs) (noise : FlipRate) (own : List Line) → length (lab_lines kind offset game noise own) ≤ 2 + length own
lab_few kinds.Match offset game noise own = omega arith
lab_few kinds.Tournament offset game noise own = omega arith
lab_few kinds.Drill offset game noise own = omega arith

-- names that are gathered are no more than those that were shown
gathered_few : (ns xs : List (List ℕ)) → length (with_names ns xs) ≤ length ns + length xs
gathered_few ns [] = omega arith
gathered_few ns (x ∷ xs) = omega (arith, gathered_few (with_name ns x) xs, one_longer ns x)

pairs_few : (names : List (List ℕ)) (ms : List MatchLine) → length (match_names names ms) ≡ 2 * length ms
pairs_few names [] = refl
pairs_few names (m ∷ ms) = omega (arith, pairs_few names ms)

shown_few : (names : List (List ℕ)) (head : Head) (body : Body) → IsBody (length names) head body → length (shown_names names body) ≤ 4224
shown_few names head (bodies.Match line) v = omega arith
shown_few names head (bodies.Tournament ms who es) v =
    let few_matches = v.few_matches in
    let few_entries = v.few_entries in
    omega (arith, length-append (match_names names ms) (map (name_at names) who), pairs_few names ms, length-map who (name_at names), as_long ms who es v.counted, few_matches, few_entries)
shown_few names head (bodies.Drill number first sum) v =
    let few = v.few in
    omega (arith, length-map first (λ (line : ℕ × ℤ). name_at names line.0), few)

own_few : (t : Bool) (n : ℕ) → (if t then 0 else n) ≤ n
own_few true n = omega arith
own_few false n = omega arith

-- a report has at most as many noises as names
pub noises_fit : (r : Report) → IsValid r → length r.noises ≤ length r.names
noises_fit r v = omega (arith, v.own, own_few (eqb r.version 1) (length r.names))

lines_few : (r : Report) → IsValid r → length (lines_of r) < 2 ^ 16
lines_few r v =
    let own : List Line = own_lines r.names r.noises in
    let lab : List Line = lab_lines (kind_of r.body) r.offset r.game r.noise own in
    let body : List Line = body_lines r.names r.body in
    let outer = length-append lab (body ++ lines.End ∷ []) in
    let inner = length-append body (lines.End ∷ []) in
    let few_lab = lab_few (kind_of r.body) r.offset r.game r.noise own in
    let few_body = body_few r.names (head_of r) r.body v.body in
    let owns = own_lines_count r.names r.noises (noises_fit r v) in
    let names : length r.names ≤ 0 + length (shown_names r.names r.body) = subst (λ (n : ℕ). n ≤ 0 + length (shown_names r.names r.body)) (sym (ap (λ (ns : List (List ℕ)). length ns) v.shown)) (gathered_few [] (shown_names r.names r.body)) in
    omega (arith, outer, inner, few_lab, few_body, owns, noises_fit r v, names, shown_few r.names (head_of r) r.body v.body)

-- ---- the line at a place

pub in_lab : (head : Line) (lab rest : List Line) (k n : ℕ) → n ≡ length lab → 1 ≤ k → k - 1 < n → slice_get (head ∷ (lab ++ rest)) k ≡ slice_get lab (k - 1)
in_lab head lab rest zero n is some front = absurd (omega (arith, some))
in_lab head lab rest (suc k) n is some front = in_front lab rest k (omega (arith, is, front)) ∙ ap (slice_get lab) (omega arith)

pub behind_lab : (head : Line) (lab rest : List Line) (k n : ℕ) → n ≡ length lab → 1 ≤ k → n ≤ k - 1 → slice_get (head ∷ (lab ++ rest)) k ≡ slice_get rest (k - 1 - n)
behind_lab head lab rest zero n is some past = absurd (omega (arith, some))
behind_lab head lab rest (suc k) n is some past = behind lab rest k (omega (arith, is, past)) ∙ ap (slice_get rest) (omega (arith, is))

printed : (r : Report) (k : ℕ) (o : Option Line) → IsValid r → o ≡ slice_get (lines_of r) k → IfSome o (λ line. is_line line ≡ true)
printed r k None v is = tt
printed r k (Some line) v is =
    let inside = slice_get_within (lines_of r) k line (sym is) in
    ap is_line (sym (get_or_from_slice_get (lines_of r) k line line (sym is))) ∙ lines_print r v k line inside

few : (r : Report) (k : ℕ) (o : Option Line) → IsValid r → o ≡ slice_get (lines_of r) k → IfSome o (λ line. k < 2 ^ 16)
few r k None v is = tt
few r k (Some line) v is =
    let inside = slice_get_within (lines_of r) k line (sym is) in
    let all = lines_few r v in
    omega (arith, inside, all)

-- what is so of the line at a place
pub so_there : (r : Report) (k : ℕ) (o : Option Line) → IsValid r → o ≡ slice_get (lines_of r) k → IfSome o (λ line. is_line line ≡ true) × IfSome o (λ line. k < 2 ^ 16)
so_there r k o v is = (printed r k o v is, few r k o v is)

-- ---- texts

one_more : (line : Line) (more : List Line) → text_of_lines (line ∷ more) ≡ text_of_lines (line ∷ []) ++ text_of_lines more
one_more line more = sym (append_assoc (line_text line) (10 ∷ []) (text_of_lines more))

-- where a line stands at a place, the text from there on begins with it
pub text_from : (is : List Line) (k : ℕ) (line : Line) → slice_get is k ≡ Some line → text_of_lines (drop k is) ≡ text_of_lines (line ∷ []) ++ text_of_lines (drop (k + 1) is)
text_from is k line there =
    ap text_of_lines (drop-cons is k line (slice_get_within is k line there) ∙ ap (λ (x : Line). x ∷ drop (suc k) is) (get_or_from_slice_get is k line line there) ∙ ap (λ (n : ℕ). line ∷ drop n is) (sym (add-one k)))
    ∙ one_more line (drop (k + 1) is)

-- one more line is added to a text
pub line_added : (is : List Line) (k : ℕ) (line : Line) (before now all : List ℕ) → slice_get is k ≡ Some line → now ≡ before ++ text_of_lines (line ∷ []) → before ++ text_of_lines (drop k is) ≡ all
    → now ++ text_of_lines (drop (k + 1) is) ≡ all
line_added is k line before now all there added so_far =
    ap (λ (t : List ℕ). t ++ text_of_lines (drop (k + 1) is)) added ∙ append_assoc before (text_of_lines (line ∷ [])) (text_of_lines (drop (k + 1) is))
    ∙ ap (λ (t : List ℕ). before ++ t) (sym (text_from is k line there)) ∙ so_far

none_left : {X : Type 0} (xs : List X) (k : ℕ) → slice_get xs k ≡ None → drop k xs ≡ []
none_left [] zero none = refl
none_left [] (suc k) none = refl
none_left (x ∷ xs) zero none = absurd cc
none_left (x ∷ xs) (suc k) none = none_left xs k none

-- where no line stands, none is left
pub no_text : (is : List Line) (k : ℕ) → slice_get is k ≡ None → text_of_lines (drop k is) ≡ []
no_text is k none = ap text_of_lines (none_left is k none)

-- one line fewer is left
pub one_fewer : (is : List Line) (k : ℕ) (line : Line) → slice_get is k ≡ Some line → length is - (k + 1) < length is - k
one_fewer is k line there = let inside = slice_get_within is k line there in omega (arith, inside)

-- the text is whole where no line is left
pub whole_text : (is : List Line) (k : ℕ) (before all : List ℕ) → slice_get is k ≡ None → before ++ text_of_lines (drop k is) ≡ all → before ≡ all
whole_text is k before all none so_far = sym (append-nil before) ∙ ap (λ (t : List ℕ). before ++ t) (sym (no_text is k none)) ∙ so_far
