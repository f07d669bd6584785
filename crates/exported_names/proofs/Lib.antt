mod UpperLaws
