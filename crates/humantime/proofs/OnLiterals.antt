-- The definitions that a proof unfolds to compute the result of parsing a literal, or the printed
-- text of a value.
use Rattle.humantime.specs.Calendar.{days_of_years, days_of_months}
use Rattle.humantime.specs.Characters.{whitespace_chars, is_whitespace, is_digit, is_letter, is_point, without_trailing_zeros}
use Rattle.humantime.specs.DurationResults.{items_from, duration_text, duration_answer, canonical_answer}
use Rattle.humantime.specs.Durations.{scale_of_word}
use Rattle.humantime.specs.TimestampResults.{date_of, moment_text, weak_answer, strict_answer}
use Rattle.humantime.specs.Timestamps.{fraction_nanos, zone_of, number_between, has_t_and_zone, has_separator, has_punctuation, has_two_digits, has_digits, is_valid_date_time, may_be_fraction}
use Rattle.humantime.specs.Walks.{walk, items, add_all, add_span, sum_spans, fault_at}
use Rattle.std.specs.Prelude.{⊤}
use Rattle.std.specs.Fmt.{digits}
use Rattle.std.specs.Str.{chars, is_utf8}
use lib.Utf8.{encode}

-- The results of parsing durations, and their printed texts.
unfoldable pub humantime_on_literals : ⊤
unfolding duration_answer canonical_answer sum_spans items items_from walk fault_at add_span add_all
    is_whitespace whitespace_chars is_digit is_letter is_point without_trailing_zeros scale_of_word
    duration_text digits chars is_utf8 encode
humantime_on_literals = tt

-- The results of parsing timestamps, and the printed texts of moments.
unfoldable pub timestamps_on_literals : ⊤
unfolding days_of_years days_of_months date_of fraction_nanos zone_of number_between has_t_and_zone
    has_separator has_punctuation has_two_digits has_digits is_valid_date_time may_be_fraction
    moment_text
    weak_answer strict_answer
timestamps_on_literals = tt
