-- The value of each limit, which the definitions take from the code.
use Rattle.std.proofs.Common.{◌≡◌, refl}
use Rattle.session_words.specs.declared.limit.TheConstants.{MOST_STEPS, MOST_STEPS_BACK, GREATEST_CODE_NUMBER, LONGEST_FILE_NAME}

most_steps_is : MOST_STEPS ≡ 100
most_steps_is = refl

most_steps_back_is : MOST_STEPS_BACK ≡ 500
most_steps_back_is = refl

greatest_code_number_is : GREATEST_CODE_NUMBER ≡ 4294967295
greatest_code_number_is = refl

longest_file_name_is : LONGEST_FILE_NAME ≡ 100
longest_file_name_is = refl
