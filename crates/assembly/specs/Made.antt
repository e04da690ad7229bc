-- What an assembled board means: at each address what the bank means that answers there.
use Rattle.std.specs.Prelude.{List}
use Rattle.assembly.specs.Meaning.{Meaning}
use Rattle.assembly.specs.Banks.{bank_meaning}
use Rattle.assembly.specs.Joints.{answering}
use Rattle.assembly.specs.declared.bank.Bank.{Bank}
use Rattle.assembly.specs.declared.made.Joint.{Joint}
use Rattle.assembly.specs.declared.made.Assembly.{Assembly}

abbrev pub joined : Bank → List Joint → Meaning
joined b js = record {
  rights = λ a. (bank_meaning (answering a b js)).rights a;
  bytes = λ a. (bank_meaning (answering a b js)).bytes a;
}

abbrev pub meaning_of : Assembly → Meaning
meaning_of s = joined s.first s.joints.items
