-- Why a module is refused: the number by which users know the cause, and what is said of it.
use Rattle.std.specs.Prelude.{ℕ, List, codes}
use Rattle.refusals.specs.declared.refusal.Limit.{Limit}
use Rattle.refusals.specs.declared.refusal.Limit.TheVariants.{Steps, StepsOfUse, Bytes, Total, Weight}
use Rattle.refusals.specs.declared.refusal.Detail.{Detail}
use Rattle.refusals.specs.declared.refusal.Detail.TheVariants.{NotUtf8, BadToken, TooBig, Unsupported, NotRead, TooDeep}
use Rattle.refusals.specs.declared.refusal.Detail.TheVariants.{NoModuleLine, OldGo, MixedPackage, NoPackage, Cycle}
use Rattle.refusals.specs.declared.refusal.Detail.TheVariants.{Internal, NotTyped, TooLarge, NotYet}

-- the number of each cause
abbrev pub number_of : Detail → ℕ
number_of NotYet = 100
number_of NotUtf8 = 101
number_of BadToken = 102
number_of TooBig = 103
number_of (Unsupported _) = 110
number_of NotRead = 111
number_of TooDeep = 112
number_of NoModuleLine = 301
number_of (OldGo _) = 302
number_of (MixedPackage _) = 303
number_of (NoPackage _) = 304
number_of (Cycle _) = 305
number_of (Internal _) = 306
number_of NotTyped = 401
number_of (TooLarge _ _ _) = 501

-- the words for a limit
abbrev pub limit_text : Limit → List ℕ
limit_text Steps = codes "steps"
limit_text StepsOfUse = codes "steps of one use"
limit_text Bytes = codes "bytes"
limit_text Total = codes "total"
limit_text Weight = codes "weight"

-- what is said of each cause
abbrev pub text_of : Detail → List ℕ
text_of NotUtf8 = codes "not UTF-8"
text_of BadToken = codes "bad token"
text_of TooBig = codes "too large"
text_of (Unsupported word) = word
text_of NotRead = codes "not read"
text_of TooDeep = codes "too deep"
text_of NoModuleLine = codes "no module line"
text_of (OldGo version) = version
text_of (MixedPackage name) = name
text_of (NoPackage path) = path
text_of (Cycle _) = codes "import cycle"
text_of (Internal path) = path
text_of NotTyped = codes "not typed"
text_of (TooLarge limit _ _) = limit_text limit
text_of NotYet = codes "not built yet"

-- where a cause is that lies in no file that is listed
abbrev pub whole_of : Detail → List ℕ
whole_of NoModuleLine = codes "go.mod"
whole_of (OldGo _) = codes "go.mod"
whole_of (Cycle path) = path
whole_of _ = codes "module"
