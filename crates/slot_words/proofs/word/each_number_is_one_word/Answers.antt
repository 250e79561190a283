use Rattle.slot_words.proofs.Words.{word_fits, number_of-word_of, word_of-number_of, number_is_small}
use Rattle.slot_words.proofs.word.each_number_is_one_word.Goals as goal

pub returns : goal.returns
returns c = record { fits = word_fits; written = number_of-word_of; read = word_of-number_of; small = number_is_small }
