-- Worked examples of the definitions: texts by their bytes, how many rows are lent, and the answers. Assumes nothing.
use Rattle.std.specs.Prelude.{Err, Result, Ok}
use Rattle.refusals.specs.Refusals.{at}
use Rattle.refusals.specs.declared.Reason.TheVariants.{Malformed, OutOfRange, Overfull, Undated}
use Rattle.refusals.specs.declared.Refusal.{Refusal}
use Prim.Native.Nat.{ℕ}
use mathlib.Core.List.{List, [], ◌∷◌, ◌++◌, map}
use mathlib.Core.Path.{◌≡◌, refl}
use lib.IntN.{pos, negsuc}
use Rattle.loops.specs.Lists.{all_of, any_of, count_of, each}
use Rattle.rows.specs.Ranges.{between, is_none, in_range, in_class}
use Rattle.line_buffer.specs.Lines.{flat_lines}
use Rattle.text_fields.specs.Parts.{until_byte, parts}
use Rattle.letters.specs.Letters.{capital}
use Rattle.dates.specs.Calendar.{month_days, years_days, months_days}
use Rattle.dates.specs.DateTime.{digits_on, date, time, date_time, milliseconds, exists, instant}
use Rattle.freebusy_lines.specs.Bytes.{spells, leading, after}
use Rattle.freebusy_lines.specs.Lines.{sent_lines, unfolded, lines}
use Rattle.freebusy_periods.specs.Duration.{counted_from, then_maybe, dur_second, dur_minute, dur_hour, dur_time, dur_date, dur_week, dur_unsigned, dur_value}
use Rattle.freebusy_periods.specs.Period.{period_explicit, period_start, period, moved, end_from, window_of}
use Rattle.freebusy_characters.specs.Utf8.{utf8_2, starts_three, utf8_3, starts_four, utf8_4, non_us_ascii, first_of, characters_from}
use Rattle.freebusy_characters.specs.ParamValue.{qsafe_char, safe_char, paramtext, quoted_string, param_value}
use Rattle.freebusy_property.specs.Quotes.{parts_in, until_in, after_in}
use Rattle.freebusy_property.specs.Property.{param_values, param, is_fbtype, fbtypeparam, other_param, one_fbparam, fbparam, params_in, named, fbvalue, freebusy, is_freebusy, says_free, is_free, value_of, periods_of}
use Rattle.freebusy_components.specs.Components.{is_begin, is_end, wrong_at, wrong_from, periods_from}
use Rattle.freebusy.specs.Call.{periods_in, closures_of, closures, period_refusal, periods_refusal, freebusy_refusal, freebusy_answer, freebusy_after}

-- BEGIN:VFREEBUSY\r\n
abbrev begins : List ℕ
begins = 66 ∷ 69 ∷ 71 ∷ 73 ∷ 78 ∷ 58 ∷ 86 ∷ 70 ∷ 82 ∷ 69 ∷ 69 ∷ 66 ∷ 85 ∷ 83 ∷ 89 ∷ 13 ∷ 10 ∷ []

-- END:VFREEBUSY\r\n
abbrev ends : List ℕ
ends = 69 ∷ 78 ∷ 68 ∷ 58 ∷ 86 ∷ 70 ∷ 82 ∷ 69 ∷ 69 ∷ 66 ∷ 85 ∷ 83 ∷ 89 ∷ 13 ∷ 10 ∷ []

-- \r\n
abbrev crlf : List ℕ
crlf = 13 ∷ 10 ∷ []

-- FREEBUSY:
abbrev name : List ℕ
name = 70 ∷ 82 ∷ 69 ∷ 69 ∷ 66 ∷ 85 ∷ 83 ∷ 89 ∷ 58 ∷ []

-- FREEBUSY;FBTYPE=FREE:
abbrev free : List ℕ
free = 70 ∷ 82 ∷ 69 ∷ 69 ∷ 66 ∷ 85 ∷ 83 ∷ 89 ∷ 59 ∷ 70 ∷ 66 ∷ 84 ∷ 89 ∷ 80 ∷ 69 ∷ 61 ∷ 70 ∷ 82 ∷ 69 ∷ 69 ∷ 58 ∷ []

-- FREEBUSY;FBTYPE=BUSY:
abbrev busy_type : List ℕ
busy_type = 70 ∷ 82 ∷ 69 ∷ 69 ∷ 66 ∷ 85 ∷ 83 ∷ 89 ∷ 59 ∷ 70 ∷ 66 ∷ 84 ∷ 89 ∷ 80 ∷ 69 ∷ 61 ∷ 66 ∷ 85 ∷ 83 ∷ 89 ∷ 58 ∷ []

-- 20240101T090000Z/PT1H
abbrev hour : List ℕ
hour = 50 ∷ 48 ∷ 50 ∷ 52 ∷ 48 ∷ 49 ∷ 48 ∷ 49 ∷ 84 ∷ 48 ∷ 57 ∷ 48 ∷ 48 ∷ 48 ∷ 48 ∷ 90 ∷ 47 ∷ 80 ∷ 84 ∷ 49 ∷ 72 ∷ []

-- 20240102T000000Z/20240103T000000Z
abbrev day : List ℕ
day = 50 ∷ 48 ∷ 50 ∷ 52 ∷ 48 ∷ 49 ∷ 48 ∷ 50 ∷ 84 ∷ 48 ∷ 48 ∷ 48 ∷ 48 ∷ 48 ∷ 48 ∷ 90 ∷ 47 ∷ 50 ∷ 48 ∷ 50 ∷ 52 ∷ 48 ∷ 49 ∷ 48 ∷ 51 ∷ 84 ∷ 48 ∷ 48 ∷ 48 ∷ 48 ∷ 48 ∷ 48 ∷ 90 ∷ []

-- 20240230T090000Z/PT1H
abbrev no_date : List ℕ
no_date = 50 ∷ 48 ∷ 50 ∷ 52 ∷ 48 ∷ 50 ∷ 51 ∷ 48 ∷ 84 ∷ 48 ∷ 57 ∷ 48 ∷ 48 ∷ 48 ∷ 48 ∷ 90 ∷ 47 ∷ 80 ∷ 84 ∷ 49 ∷ 72 ∷ []

-- 20240101T090000Z/PT0S
abbrev no_time : List ℕ
no_time = 50 ∷ 48 ∷ 50 ∷ 52 ∷ 48 ∷ 49 ∷ 48 ∷ 49 ∷ 84 ∷ 48 ∷ 57 ∷ 48 ∷ 48 ∷ 48 ∷ 48 ∷ 90 ∷ 47 ∷ 80 ∷ 84 ∷ 48 ∷ 83 ∷ []

-- ,
abbrev comma : List ℕ
comma = 44 ∷ []

record Example : Type 0 where
  text : List ℕ
  room : ℕ
  answer : Result ℕ Refusal

abbrev told : List ℕ → ℕ → Result ℕ Refusal → Example
told t n a = record { text = t; room = n; answer = a }

examples : List Example
examples =
    -- a text of no bytes has no line
    told ([]) 0 (Ok 0) ∷
    -- a busy hour
    told (begins ++ name ++ hour ++ crlf ++ ends) 1 (Ok 1) ∷
    -- its row does not fit
    told (begins ++ name ++ hour ++ crlf ++ ends) 0 (Err (at Overfull 1)) ∷
    -- a FREE period has no row
    told (begins ++ free ++ hour ++ crlf ++ ends) 0 (Ok 0) ∷
    -- and is judged like the others
    told (begins ++ free ++ no_date ++ crlf ++ ends) 0 (Err (at Undated 1)) ∷
    -- of any other type it is busy
    told (begins ++ busy_type ++ hour ++ crlf ++ ends) 0 (Err (at Overfull 1)) ∷
    -- two periods on a line, one on the next
    told (begins ++ name ++ hour ++ comma ++ day ++ crlf ++ name ++ day ++ crlf ++ ends) 3 (Ok 3) ∷
    -- the third does not fit
    told (begins ++ name ++ hour ++ comma ++ day ++ crlf ++ name ++ day ++ crlf ++ ends) 2 (Err (at Overfull 2)) ∷
    -- 30 February
    told (begins ++ name ++ hour ++ comma ++ no_date ++ crlf ++ ends) 9 (Err (at Undated 1)) ∷
    -- which comes before its row
    told (begins ++ name ++ hour ++ comma ++ no_date ++ crlf ++ ends) 1 (Err (at Undated 1)) ∷
    -- and after the row of the period before it
    told (begins ++ name ++ hour ++ comma ++ no_date ++ crlf ++ ends) 0 (Err (at Overfull 1)) ∷
    -- an end not after its start
    told (begins ++ name ++ no_time ++ crlf ++ ends) 9 (Err (at Malformed 1)) ∷
    -- by period: 11 here, 12 later
    told (begins ++ name ++ no_time ++ comma ++ no_date ++ crlf ++ ends) 9 (Err (at Malformed 1)) ∷
    -- a later line against the grammar comes before all periods
    told (begins ++ name ++ no_date ++ crlf ++ name ++ crlf ++ ends) 9 (Err (at Malformed 2)) ∷
    -- never ended: at its first line, before a worse line
    told (crlf ++ begins ++ name ++ crlf) 9 (Err (at Malformed 1)) ∷
    -- ended and begun again, and not ended
    told (begins ++ ends ++ begins) 9 (Err (at Malformed 2)) ∷
    -- begun inside itself
    told (begins ++ begins ++ ends) 9 (Err (at Malformed 1)) ∷
    -- ended twice: the second is unopened
    told (crlf ++ begins ++ ends ++ ends) 9 (Err (at Malformed 3)) ∷
    -- ended unopened
    told (ends) 9 (Err (at Malformed 0)) ∷
    -- the last line lacks its CRLF, and ends the component all the same (END:VFREEBUSY)
    told (begins ++ (69 ∷ 78 ∷ 68 ∷ 58 ∷ 86 ∷ 70 ∷ 82 ∷ 69 ∷ 69 ∷ 66 ∷ 85 ∷ 83 ∷ 89 ∷ [])) 9 (Err (at Malformed 1)) ∷
    -- the last line lacks its CRLF, and begins one (BEGIN:VFREEBUSY)
    told (crlf ++ (66 ∷ 69 ∷ 71 ∷ 73 ∷ 78 ∷ 58 ∷ 86 ∷ 70 ∷ 82 ∷ 69 ∷ 69 ∷ 66 ∷ 85 ∷ 83 ∷ 89 ∷ [])) 9 (Err (at Malformed 1)) ∷
    -- a line feed alone ends no line (X\n)
    told ((88 ∷ 10 ∷ [])) 9 (Err (at Malformed 0)) ∷
    -- nor does a carriage return (X\r)
    told ((88 ∷ 13 ∷ [])) 9 (Err (at Malformed 0)) ∷
    -- a line of nothing but a fold lacks its CRLF ( )
    told (crlf ++ (32 ∷ [])) 9 (Err (at Malformed 0)) ∷
    -- empty lines
    told (crlf ++ crlf) 9 (Ok 0) ∷
    -- folded anywhere, letters in either case (begin:vFree\r\n BUSY\r\nfree\r\n\tbusy:20240\r\n 101t090000z/\r\n p\r\n t1h\r\nend:vfreebusy\r\n)
    told ((98 ∷ 101 ∷ 103 ∷ 105 ∷ 110 ∷ 58 ∷ 118 ∷ 70 ∷ 114 ∷ 101 ∷ 101 ∷ 13 ∷ 10 ∷ 32 ∷ 66 ∷ 85 ∷ 83 ∷ 89 ∷ 13 ∷ 10 ∷ 102 ∷ 114 ∷ 101 ∷ 101 ∷ 13 ∷ 10 ∷ 9 ∷ 98 ∷ 117 ∷ 115 ∷ 121 ∷ 58 ∷ 50 ∷ 48 ∷ 50 ∷ 52 ∷ 48 ∷ 13 ∷ 10 ∷ 32 ∷ 49 ∷ 48 ∷ 49 ∷ 116 ∷ 48 ∷ 57 ∷ 48 ∷ 48 ∷ 48 ∷ 48 ∷ 122 ∷ 47 ∷ 13 ∷ 10 ∷ 32 ∷ 112 ∷ 13 ∷ 10 ∷ 32 ∷ 116 ∷ 49 ∷ 104 ∷ 13 ∷ 10 ∷ 101 ∷ 110 ∷ 100 ∷ 58 ∷ 118 ∷ 102 ∷ 114 ∷ 101 ∷ 101 ∷ 98 ∷ 117 ∷ 115 ∷ 121 ∷ 13 ∷ 10 ∷ [])) 1 (Ok 1) ∷
    -- only whole lines begin and end (BEGIN:VFREEBUSY \r\n)
    told ((66 ∷ 69 ∷ 71 ∷ 73 ∷ 78 ∷ 58 ∷ 86 ∷ 70 ∷ 82 ∷ 69 ∷ 69 ∷ 66 ∷ 85 ∷ 83 ∷ 89 ∷ 32 ∷ 13 ∷ 10 ∷ []) ++ name ++ crlf) 9 (Ok 0) ∷
    -- lines outside the component are passed over
    told (name ++ crlf ++ begins ++ ends ++ name ++ no_date ++ crlf) 9 (Ok 0) ∷
    -- and lines of other names (FREEBUSYX:1\r\nX-FREEBUSY\r\n:\r\n)
    told (begins ++ (70 ∷ 82 ∷ 69 ∷ 69 ∷ 66 ∷ 85 ∷ 83 ∷ 89 ∷ 88 ∷ 58 ∷ 49 ∷ 13 ∷ 10 ∷ 88 ∷ 45 ∷ 70 ∷ 82 ∷ 69 ∷ 69 ∷ 66 ∷ 85 ∷ 83 ∷ 89 ∷ 13 ∷ 10 ∷ 58 ∷ 13 ∷ 10 ∷ []) ++ ends) 9 (Ok 0) ∷
    -- a name is the leading letters, digits and hyphens (FREEBUSY_X:1\r\n)
    told (begins ++ (70 ∷ 82 ∷ 69 ∷ 69 ∷ 66 ∷ 85 ∷ 83 ∷ 89 ∷ 95 ∷ 88 ∷ 58 ∷ 49 ∷ 13 ∷ 10 ∷ []) ++ ends) 9 (Err (at Malformed 1)) ∷
    -- so this line has the name (FREEBUSY\r\n)
    told (begins ++ (70 ∷ 82 ∷ 69 ∷ 69 ∷ 66 ∷ 85 ∷ 83 ∷ 89 ∷ 13 ∷ 10 ∷ []) ++ ends) 9 (Err (at Malformed 1)) ∷
    -- whatever else is begun and ended between (BEGIN:VEVENT\r\n, END:VEVENT\r\n)
    told (begins ++ (66 ∷ 69 ∷ 71 ∷ 73 ∷ 78 ∷ 58 ∷ 86 ∷ 69 ∷ 86 ∷ 69 ∷ 78 ∷ 84 ∷ 13 ∷ 10 ∷ []) ++ name ++ hour ++ crlf ++ (69 ∷ 78 ∷ 68 ∷ 58 ∷ 86 ∷ 69 ∷ 86 ∷ 69 ∷ 78 ∷ 84 ∷ 13 ∷ 10 ∷ []) ++ ends) 1 (Ok 1) ∷
    -- two components
    told (begins ++ name ++ hour ++ crlf ++ ends ++ begins ++ name ++ day ++ crlf ++ ends) 2 (Ok 2) ∷
    -- a quoted colon parts nothing (FREEBUSY;X=":,;":)
    told (begins ++ (70 ∷ 82 ∷ 69 ∷ 69 ∷ 66 ∷ 85 ∷ 83 ∷ 89 ∷ 59 ∷ 88 ∷ 61 ∷ 34 ∷ 58 ∷ 44 ∷ 59 ∷ 34 ∷ 58 ∷ []) ++ hour ++ crlf ++ ends) 1 (Ok 1) ∷
    -- FBTYPE twice (FREEBUSY;FBTYPE=FREE;FBTYPE=FREE:)
    told (begins ++ (70 ∷ 82 ∷ 69 ∷ 69 ∷ 66 ∷ 85 ∷ 83 ∷ 89 ∷ 59 ∷ 70 ∷ 66 ∷ 84 ∷ 89 ∷ 80 ∷ 69 ∷ 61 ∷ 70 ∷ 82 ∷ 69 ∷ 69 ∷ 59 ∷ 70 ∷ 66 ∷ 84 ∷ 89 ∷ 80 ∷ 69 ∷ 61 ∷ 70 ∷ 82 ∷ 69 ∷ 69 ∷ 58 ∷ []) ++ hour ++ crlf ++ ends) 1 (Err (at Malformed 1)) ∷
    []

answers : map (λ e. freebusy_answer e.text (pos 7) e.room) examples ≡ map (λ e. e.answer) examples
unfolding examples all_of any_of count_of each between is_none in_range in_class until_byte parts capital month_days years_days months_days digits_on date time date_time milliseconds exists instant spells leading after sent_lines unfolded lines counted_from then_maybe dur_second dur_minute dur_hour dur_time dur_date dur_week dur_unsigned dur_value period_explicit period_start period moved end_from window_of utf8_2 starts_three utf8_3 starts_four utf8_4 non_us_ascii first_of characters_from qsafe_char safe_char paramtext quoted_string param_value parts_in until_in after_in param_values param is_fbtype fbtypeparam other_param one_fbparam fbparam params_in named fbvalue freebusy is_freebusy says_free is_free value_of periods_of is_begin is_end wrong_at wrong_from periods_from periods_in closures_of closures period_refusal periods_refusal freebusy_refusal freebusy_answer
answers = refl

-- 3 comes before 11
no_resource : freebusy_answer ends (negsuc 0) 9 ≡ Err (at OutOfRange 0)
unfolding all_of any_of count_of each between is_none in_range in_class until_byte parts capital month_days years_days months_days digits_on date time date_time milliseconds exists instant spells leading after sent_lines unfolded lines counted_from then_maybe dur_second dur_minute dur_hour dur_time dur_date dur_week dur_unsigned dur_value period_explicit period_start period moved end_from window_of utf8_2 starts_three utf8_3 starts_four utf8_4 non_us_ascii first_of characters_from qsafe_char safe_char paramtext quoted_string param_value parts_in until_in after_in param_values param is_fbtype fbtypeparam other_param one_fbparam fbparam params_in named fbvalue freebusy is_freebusy says_free is_free value_of periods_of is_begin is_end wrong_at wrong_from periods_from periods_in closures_of closures period_refusal periods_refusal freebusy_refusal freebusy_answer
no_resource = refl

-- the row of the busy hour, and what lay after it: of 13 lent numbers ten are a row
its_row : freebusy_after (begins ++ name ++ hour ++ crlf ++ ends) (pos 7) (pos 1 ∷ pos 2 ∷ pos 3 ∷ pos 4 ∷ pos 5 ∷ pos 6 ∷ pos 7 ∷ pos 8 ∷ pos 9 ∷ pos 10 ∷ pos 11 ∷ pos 12 ∷ pos 13 ∷ [])
    ≡ pos 15 ∷ pos 7 ∷ pos 1 ∷ pos 1_704_099_600_000 ∷ pos 1_704_103_200_000 ∷ pos 0 ∷ pos 0 ∷ pos 0 ∷ pos 0 ∷ pos 0 ∷ pos 11 ∷ pos 12 ∷ pos 13 ∷ []
unfolding all_of any_of count_of each between is_none in_range in_class until_byte parts capital month_days years_days months_days digits_on date time date_time milliseconds exists instant spells leading after sent_lines unfolded lines counted_from then_maybe dur_second dur_minute dur_hour dur_time dur_date dur_week dur_unsigned dur_value period_explicit period_start period moved end_from window_of utf8_2 starts_three utf8_3 starts_four utf8_4 non_us_ascii first_of characters_from qsafe_char safe_char paramtext quoted_string param_value parts_in until_in after_in param_values param is_fbtype fbtypeparam other_param one_fbparam fbparam params_in named fbvalue freebusy is_freebusy says_free is_free value_of periods_of is_begin is_end wrong_at wrong_from periods_from periods_in closures_of closures period_refusal periods_refusal freebusy_refusal flat_lines freebusy_after
its_row = refl

-- nine are none, and a refusal changes none of them
no_row : freebusy_after (begins ++ name ++ hour ++ crlf ++ ends) (pos 7) (pos 1 ∷ pos 2 ∷ pos 3 ∷ pos 4 ∷ pos 5 ∷ pos 6 ∷ pos 7 ∷ pos 8 ∷ pos 9 ∷ [])
    ≡ pos 1 ∷ pos 2 ∷ pos 3 ∷ pos 4 ∷ pos 5 ∷ pos 6 ∷ pos 7 ∷ pos 8 ∷ pos 9 ∷ []
unfolding all_of any_of count_of each between is_none in_range in_class until_byte parts capital month_days years_days months_days digits_on date time date_time milliseconds exists instant spells leading after sent_lines unfolded lines counted_from then_maybe dur_second dur_minute dur_hour dur_time dur_date dur_week dur_unsigned dur_value period_explicit period_start period moved end_from window_of utf8_2 starts_three utf8_3 starts_four utf8_4 non_us_ascii first_of characters_from qsafe_char safe_char paramtext quoted_string param_value parts_in until_in after_in param_values param is_fbtype fbtypeparam other_param one_fbparam fbparam params_in named fbvalue freebusy is_freebusy says_free is_free value_of periods_of is_begin is_end wrong_at wrong_from periods_from periods_in closures_of closures period_refusal periods_refusal freebusy_refusal flat_lines freebusy_after
no_row = refl
