use Rattle.std.proofs.Common.{◌≡◌, ◌++◌, List, ℕ, true, sym, ap, ◌∙◌}
use Rattle.std.proofs.lemmas.List.{append_assoc}
use Rattle.std.proofs.lemmas.Result.{MatchResult-at_ok}
use Rattle.std.specs.List.{list_all}
use Rattle.std.specs.Str.{IsUtf8, IsValidUpTo, valid_up_to}
use Rattle.std.specs.Prelude.{string_bytes}
use Rattle.cl_names.specs.Text.{is_text}
use Rattle.cl_names.specs.Escape.{is_plain, escaped_text}
use Rattle.cl_names.proofs.Units.{plain_printed, plain_text, plain_utf8, accepted}
use Rattle.cl_names.proofs.escape.put_plain.Goals as goal

pub unwrap-requires : goal.unwrap-requires
unwrap-requires c =
    let plain : list_all is_plain c.split_at.result.0.now ≡ true = ap (list_all is_plain) c.split_at.ensures.front ∙ c.plain_len.ensures.plain in
    let front = c.split_at.result.0.now in
    accepted front (λ s. (s.now ≡ front) × IsUtf8 front) (λ e. IsValidUpTo front (valid_up_to e)) c.from_utf8.result c.from_utf8.ensures.cases (plain_utf8 front plain)

pub returns-clause-printed : goal.returns-clause-printed
returns-clause-printed c =
    let text = string_bytes c.args.text.now in
    let front = c.split_at.result.0.now in
    let rest = c.split_at.result.1.now in
    let plain : list_all is_plain front ≡ true = ap (list_all is_plain) c.split_at.ensures.front ∙ c.plain_len.ensures.plain in
    let same = MatchResult-at_ok (λ s. (s.now ≡ front) × IsUtf8 front) _ c.unwrap.result c.unwrap.ensures c.from_utf8.ensures.cases in
    ap (λ (r : List ℕ). r ++ escaped_text rest) (c.in_ok-push_str.ensures.bytes ∙ ap (λ (r : List ℕ). text ++ r) same.0) ∙ append_assoc text front (escaped_text rest)
    ∙ ap (λ (r : List ℕ). text ++ r) (sym (plain_printed front rest plain) ∙ ap escaped_text (sym c.split_at.ensures.by_index.0))

pub returns-clause-text : goal.returns-clause-text
returns-clause-text c =
    let plain : list_all is_plain c.split_at.result.0.now ≡ true = ap (list_all is_plain) c.split_at.ensures.front ∙ c.plain_len.ensures.plain in
    sym (plain_text c.split_at.result.0.now c.split_at.result.1.now plain) ∙ ap is_text (sym c.split_at.ensures.by_index.0)
