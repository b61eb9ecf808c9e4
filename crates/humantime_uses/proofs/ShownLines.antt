-- A window of a line shows it, and the report of an error shows its range.
use Rattle.std.specs.Prelude.{◌≡◌, ◌≢◌, ◌+◌, ◌-◌, ◌<◌, ◌≤◌, ◌++◌, ℕ, List, [], ◌∷◌, Bool, true}
use Rattle.std.specs.Prelude.{false, None, Some, IsUtf8, chars, codes, decimal, drop}
use Rattle.std.specs.Prelude.{encode_utf8, if◌then◌else◌, length, max, min, nat_le, nat_lt}
use Rattle.std.specs.Prelude.{option_map, take, unwrap_or}
use Rattle.std.specs.Fmt.{digits}
use Rattle.std.specs.Str.{all_scalars}
use Rattle.std.proofs.Common.{◌∙◌, ap, append-nil, append_assoc, arith, inl, inr, length-append}
use Rattle.std.proofs.Common.{refl, sym}
use Rattle.std.proofs.lemmas.Bool.{cases_lt, cond_both, leb-false, leb-true}
use Rattle.std.proofs.lemmas.Bool.Decides.{nat_tests}
use Rattle.std.proofs.lemmas.Grind.{flat_map-append}
use Rattle.std.proofs.lemmas.List.Sums.{sum_by-append}
use Rattle.std.proofs.lemmas.Str.{encode_ascii, len_utf8_bounds, length-encode, scalars-chars}
use Rattle.unicode_width.proofs.Rules.{width_or_zero-le}
use Rattle.humantime_lines.specs.Carets.{caret_line}
use Rattle.humantime_lines.specs.Escapes.{escaped, escaped_char, escaped_chars, is_escaped}
use Rattle.humantime_lines.specs.Escapes.{room}
use Rattle.humantime_lines.specs.Lines.{line_after, line_before, line_number}
use Rattle.humantime_std.specs.Located.{IsRangeIn}
use Rattle.humantime_lines.specs.MarkedLines.{Window, cut_to, dots, end_within, report_text}
use Rattle.humantime_lines.specs.MarkedLines.{line_room}
use Rattle.humantime_lines.specs.MarkedLines.{start_within, window_of}
use Rattle.humantime_lines.proofs.Lines.{line_utf8}
use Rattle.humantime_std.proofs.Overflows.{scalars_parts}
use Rattle.humantime_lines.proofs.Windows.{line_room-cons, line_room-cut_to, line_room-dots}
use Rattle.humantime_lines.proofs.Windows.{line_room-end_within}
use Rattle.humantime_lines.proofs.Windows.{start_within-cons, start_within-stops}
use Rattle.humantime_lines.proofs.Windows.{escaped_chars-dots}
use Rattle.humantime_uses.specs.CaretColumns.{ShowsEnd, ShowsLine, ShowsRange, ShowsStart}
use Rattle.humantime_uses.specs.CaretColumns.{line_feeds}
use Rattle.humantime_uses.proofs.CaretColumns.{stands_under}
use Rattle.humantime_uses.proofs.LineWidths.{caret_line_within, column_within}

-- A character takes one to eight columns.
room_bounds : (c : ℕ) → (1 ≤ room c) × (room c ≤ 8)
room_bounds c = grind (arith, nat_tests, width_or_zero-le false c)

-- Two lines are written one after the other.
escaped_append : (xs ys : List ℕ) → escaped_chars (xs ++ ys) ≡ escaped_chars xs ++ escaped_chars ys
escaped_append xs ys = flat_map-append escaped_char xs ys

-- The characters of two lines are scalar values if those of each are.
scalars_both : (xs ys : List ℕ) → all_scalars xs ≡ true → all_scalars ys ≡ true
    → all_scalars (xs ++ ys) ≡ true
scalars_both [] ys first second = second
scalars_both (c ∷ xs) ys first second = grind (arith, scalars_both xs ys)

-- The longest end of a line that fits is an end of it.
end_cut : (n : ℕ) (line : List ℕ) → (cut : List ℕ) × (line ≡ cut ++ end_within n line)
end_cut n [] = ([], refl)
end_cut n (c ∷ line) =
    let rest = end_cut n line in
    let P = λ (end : List ℕ). (cut : List ℕ) × (c ∷ line ≡ cut ++ end) in
    cond_both (nat_le (line_room (c ∷ line)) n) (c ∷ line) (end_within n line) P
    (λ _. ([], refl)) (λ _. (c ∷ rest.0, ap (c ∷◌) rest.1))

-- The longest start of a line that fits is a start of it, and fits.
start_cut : (n : ℕ) (line : List ℕ)
    → (cut : List ℕ) × (line ≡ start_within n line ++ cut) × (line_room (start_within n line) ≤ n)
start_cut n [] = ([], refl, omega arith)
start_cut n (c ∷ line) =
    let start = start_within (n - room c) line in
    let rest = start_cut (n - room c) line in
    let P = λ (s : List ℕ). (cut : List ℕ) × (c ∷ line ≡ s ++ cut) × (line_room s ≤ n) in
    cond_both (nat_le (room c) n) (c ∷ start) [] P
    (λ fits. (
      rest.0,
      ap (c ∷◌) rest.1,
      omega (arith, leb-true (room c) n fits, rest.2, line_room-cons c start),
    ))
    (λ _. (c ∷ line, refl, omega arith))

-- Nothing fits in no column.
start_within-none : (n : ℕ) (line : List ℕ) → n ≡ 0 → start_within n line ≡ []
start_within-none n [] none = refl
start_within-none n (c ∷ line) none = start_within-stops n c line (omega (arith, room_bounds c))

-- The longest start of two lines is that of the first, and that of the second in what is left.
start_of_both : (n : ℕ) (xs ys : List ℕ)
    → start_within n (xs ++ ys) ≡ start_within n xs ++ start_within (n - line_room xs) ys
start_of_both n [] ys = ap (λ k. start_within k ys) (omega arith)
start_of_both n (c ∷ xs) ys =
    let size = line_room-cons c xs in
    elim (cases_lt n (room c)) [
      | inl wide ↦
          let none = start_within-none (n - line_room (c ∷ xs)) ys (omega arith) in
          rw (start_within-stops n c (xs ++ ys) wide, start_within-stops n c xs wide, none)
      | inr fits ↦
          let left : n - room c - line_room xs ≡ n - line_room (c ∷ xs) = omega arith in
          rw (start_within-cons n c (xs ++ ys) fits, start_within-cons n c xs fits, ← left)
          (ap (c ∷◌) (start_of_both (n - room c) xs ys))
    ]

-- A line that takes some columns is not empty where it is written.
escaped_some : (line : List ℕ) → 0 < line_room line → escaped_chars line ≢ []
escaped_some [] some = absurd (omega arith)
escaped_some (c ∷ line) some =
    let bs = encode_utf8 c in
    let escape = codes "\\u{" ++ (digits 16 false c ++ codes "}") in
    let P = λ (one : List ℕ). one ++ escaped_chars line ≢ [] in
    cond_both (is_escaped c) escape bs P (λ _. λ none. cc) (λ _. λ none.
    let size = length-append bs (escaped_chars line) in
    absurd (omega (arith, size, ap length none, length-encode c, (len_utf8_bounds c).0)))

-- A line that is cut shows its end, and its characters are scalar values.
end_shown : (n : ℕ) (line : List ℕ) → all_scalars line ≡ true
    → ShowsEnd (escaped_chars line) (escaped_chars (cut_to n line))
    × (all_scalars (cut_to n line) ≡ true)
end_shown n line scalars =
    let kept = end_within (n - 3) line in
    let rest = end_cut (n - 3) line in
    let spelled = ap escaped_chars rest.1 ∙ escaped_append rest.0 kept in
    let size = ap line_room rest.1 ∙ sum_by-append room rest.0 kept in
    let P = λ (seen : List ℕ). ShowsEnd (escaped_chars line) (escaped_chars seen)
    × (all_scalars seen ≡ true) in
    cond_both (nat_le (line_room line) n) line (dots ++ kept) P
    (λ _. (inl refl, scalars))
    (λ long. (
      inr (
        escaped_chars rest.0,
        escaped_chars kept,
        escaped_some rest.0
            (omega
            (arith, leb-false (line_room line) n long, size, line_room-end_within (n - 3) line)),
        spelled,
        rw (encode_ascii 46 (omega arith)) refl,
      ),
      (scalars_parts rest.0 kept (ap all_scalars (sym rest.1) ∙ scalars)).1,
    ))

-- The longest start of a line shows its start, if dots are after it.
start_shown : (n : ℕ) (line : List ℕ) → n < line_room line
    → ShowsStart (escaped_chars line) (escaped_chars (start_within n line ++ dots))
start_shown n line wide =
    let kept = start_within n line in
    let rest = start_cut n line in
    let spelled = ap escaped_chars rest.1 ∙ escaped_append kept rest.0 in
    let size = ap line_room rest.1 ∙ sum_by-append room kept rest.0 in
    let cut = escaped_some rest.0 (omega (arith, size, rest.2)) in
    inr (escaped_chars kept, escaped_chars rest.0, cut, spelled, escaped_chars-dots kept)

-- A start of a part and of what is after it is shown in `n` columns.
record ShowsRest (n : ℕ) (part after seen more : List ℕ) : Type 0 where
  start : ShowsStart (escaped_chars part ++ escaped_chars after)
      (escaped_chars seen ++ escaped_chars more)
  of_part : (cut : List ℕ) × (escaped_chars part ≡ escaped_chars seen ++ cut)
  first : (c : ℕ) (cs : List ℕ) → part ≡ c ∷ cs → (end : List ℕ)
      × (escaped_chars seen ≡ escaped_char c ++ end)
  scalars : (all_scalars seen ≡ true) × (all_scalars more ≡ true)
  within : line_room seen + line_room more ≤ n

-- It is all of them where they fit.
rest_fits : (n : ℕ) (part after : List ℕ) → all_scalars part ≡ true → all_scalars after ≡ true
    → line_room part + line_room after ≤ n → ShowsRest n part after part after
rest_fits n part after scalars others fits = record {
  start = inl refl;
  of_part = ([], sym (append-nil (escaped_chars part)));
  first = λ c cs is. (escaped_chars cs, ap escaped_chars is);
  scalars = (scalars, others);
  within = fits;
}

-- Else dots are after it.
rest_cut : (n : ℕ) (part after : List ℕ) → all_scalars part ≡ true → all_scalars after ≡ true
    → 11 ≤ n → n < line_room part + line_room after
    → ShowsRest n part after (start_within (n - 3) part)
    (start_within (n - 3 - line_room part) after ++ dots)
rest_cut n part after scalars others enough wide =
    let m = n - 3 in
    let seen = start_within m part in
    let more = start_within (m - line_room part) after in
    let of_part = start_cut m part in
    let of_after = start_cut (m - line_room part) after in
    let both = start_of_both m part after in
    let seam = sym (append_assoc seen more dots) ∙ ap (λ s. s ++ dots) (sym both) in
    let kept = ap all_scalars (sym of_part.1) ∙ scalars in
    let kept_after = ap all_scalars (sym of_after.1) ∙ others in
    record {
      start = rw (← escaped_append part after, ← escaped_append seen (more ++ dots), seam)
          (start_shown m (part ++ after) (omega (arith, sum_by-append room part after)));
      of_part =
          (escaped_chars of_part.0, ap escaped_chars of_part.1 ∙ escaped_append seen of_part.0);
      first = λ c cs is. (
        escaped_chars (start_within (m - room c) cs),
        ap (λ line. escaped_chars (start_within m line)) is
            ∙ ap escaped_chars (start_within-cons m c cs (omega (arith, room_bounds c))),
      );
      scalars = (
        (scalars_parts seen of_part.0 kept).0,
        scalars_both more dots (scalars_parts more of_after.0 kept_after).0 refl,
      );
      within = omega (
        arith,
        (start_cut m (part ++ after)).2,
        ap line_room both,
        sum_by-append room seen more,
        sum_by-append room more dots,
        line_room-dots [],
      );
    }

-- What is written of a window shows a line.
abbrev ShowsIn : (before part after : List ℕ) → Window → Type 0
ShowsIn before part after seen =
    ShowsLine before part after
    (escaped_chars seen.before ++ (escaped_chars seen.part ++ escaped_chars seen.after))
    (caret_line (escaped_chars seen.before) (escaped_chars seen.part))

-- So it is if its parts show those of the line in 78 columns, of which the first leaves some.
window_shown : (n : ℕ) (before part after : List ℕ) (seen : Window)
    → 1 ≤ n → line_room seen.before + n ≡ 78
    → ShowsEnd (escaped before) (escaped_chars seen.before) × (all_scalars seen.before ≡ true)
    → ShowsRest n (chars part) (chars after) seen.part seen.after → ShowsIn before part after seen
window_shown n before part after seen some fits end rest =
    let both = seen.part ++ seen.after in
    let line = seen.before ++ both in
    let others = scalars_both seen.part seen.after rest.scalars.0 rest.scalars.1 in
    let scalars = scalars_both seen.before both end.1 others in
    record {
      front = escaped_chars seen.before;
      wrong = escaped_chars seen.part;
      back = escaped_chars seen.after;
      whole = refl;
      end = end.0;
      start = rest.start;
      of_part = rest.of_part;
      first = rest.first;
      under = stands_under (escaped_chars seen.before) (escaped_chars seen.part);
      line_narrow = λ stop column near.
          rw (← escaped_append seen.part seen.after, ← escaped_append seen.before both) (omega (
            arith,
            column_within stop near column line scalars,
            sum_by-append room seen.before both,
            sum_by-append room seen.part seen.after,
            rest.within,
          ));
      carets_narrow = λ stop column near.
          let carets = caret_line_within stop near column seen.before seen.part in
          omega (arith, carets end.1 rest.scalars.0, rest.within);
    }

-- A line is shown in its window.
pub shows_line : (before part after : List ℕ) → IsUtf8 before → IsUtf8 part → IsUtf8 after
    → ShowsIn before part after (window_of (chars before) (chars part) (chars after))
unfolding window_of
shows_line before part after utf8 utf8_of_part utf8_of_after =
    let first = chars part in
    let second = chars after in
    let rest = line_room first + line_room second in
    let space = 78 - max (min rest 39) 1 in
    let front = cut_to space (chars before) in
    let left = 78 - line_room front in
    let fits = line_room-cut_to space (chars before) (omega arith) in
    let end = end_shown space (chars before) (scalars-chars before utf8) in
    let scalars = scalars-chars part utf8_of_part in
    let others = scalars-chars after utf8_of_after in
    let whole : Window = record { before = front; part = first; after = second } in
    let cut : Window = record {
      before = front;
      part = start_within (left - 3) first;
      after = start_within (left - 3 - line_room first) second ++ dots;
    } in
    let shows = λ (seen : Window). window_shown left before part after seen (omega arith) in
    cond_both (nat_le rest left) whole cut (ShowsIn before part after)
    (λ short.
    let within = leb-true rest left short in
    shows whole (omega arith) end (rest_fits left first second scalars others within))
    (λ long.
    let wide = leb-false rest left long in
    shows cut (omega arith) end (rest_cut left first second scalars others (omega arith) wide))

-- The text before a message is empty, or has the number of the line.
numbered : (several : Bool) (n : ℕ)
    → unwrap_or (option_map (λ k. codes "line " ++ (decimal k ++ codes ": "))
    (if several then Some n else None)) []
    ≡ (if several then codes "line " ++ (decimal n ++ codes ": ") else [])
numbered true n = refl
numbered false n = refl

-- The report of an error shows its range.
pub shows_range : (text message lines : List ℕ) (start end : ℕ) → IsUtf8 text
    → IsRangeIn text start end → let line = line_after text start in let len = end - start in
    lines ≡ report_text (line_number text start) message (line_before text start) (take len line)
    (drop len line)
    → ShowsRange text message start end lines
shows_range text message lines start end utf8 range whole =
    let parts = line_utf8 text start end utf8 range in
    let line = line_after text start in
    let count = line_feeds (take start text) + 1 in
    record {
      line = _;
      carets = _;
      shows = shows_line (line_before text start) (take (end - start) line)
          (drop (end - start) line) parts.0 parts.1 parts.2;
      whole = simp append_assoc (rw (numbered (nat_lt 0 (line_feeds text)) count) at whole);
    }
